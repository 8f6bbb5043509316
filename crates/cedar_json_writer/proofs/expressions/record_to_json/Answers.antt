use Rattle.cedar_model.specs.Terms.{record_of}
use Rattle.cedar_expressions.specs.View.{fields_view}
use Rattle.cedar_json_writer.proofs.ReadBack.{back_if_ok}
use Rattle.cedar_json_writer.proofs.expressions.record_to_json.Goals as goal

pub returns-clause-reads_back : goal.returns-clause-reads_back
returns-clause-reads_back c =
    back_if_ok c.pairs_to_json.result (record_of (fields_view c.args.pairs.now.entries)) c.pairs_to_json.ensures.written c.pairs_to_json.ensures.kept
