use Rattle.cedar_expressions.specs.View.{view}
use Rattle.cedar_json_writer.proofs.ReadBack.{back_if_ok}
use Rattle.cedar_json_writer.proofs.expressions.expr_to_json.Goals as goal

pub returns-clause-reads_back : goal.returns-clause-reads_back
returns-clause-reads_back c =
    back_if_ok c.restricted_to_json.result (view c.args.expr.now) c.restricted_to_json.ensures.written c.restricted_to_json.ensures.kept
