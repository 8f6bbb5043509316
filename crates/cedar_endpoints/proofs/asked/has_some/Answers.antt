use Rattle.cedar_endpoints.proofs.Given.{some_members}
use Rattle.std.proofs.Common.{sym, ◌∙◌}
use Rattle.cedar_endpoints.proofs.asked.has_some.Goals as goal

pub returns-else-is_empty : goal.returns-else-is_empty
returns-else-is_empty c = some_members c.args.members.now (sym c.is_empty.ensures ∙ c.if-is_empty.false)
