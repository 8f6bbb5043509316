use Rattle.cedar_expressions.specs.View.{view}
use Rattle.cedar_policy_json_laws.proofs.Levels.{expression_reads_back}
use Rattle.cedar_policy_json_laws.proofs.laws.expressions_read_back.Goals as goal

pub returns : goal.returns
returns c = expression_reads_back (view c.args.expr.now)
