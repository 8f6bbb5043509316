use Rattle.cedar_names.specs.Leaves.{variable_view}
use Rattle.cedar_expressions.specs.View.{view}
use Rattle.cedar_policy_json_laws.proofs.Scopes.{scope_reads_back, linked_scope_reads_back}
use Rattle.cedar_policy_json_laws.proofs.laws.scopes_read_back.Goals as goal

pub returns-clause-itself : goal.returns-clause-itself
returns-clause-itself c = scope_reads_back (variable_view c.args.var) (view c.args.constraint.now)

pub returns-clause-linked : goal.returns-clause-linked
returns-clause-linked c = linked_scope_reads_back (variable_view c.args.var) (view c.args.constraint.now)
