use Rattle.cedar_endpoints.proofs.Given.{some_given}
use Rattle.std.proofs.Common.{sym, ◌∙◌}
use Rattle.cedar_endpoints.proofs.asked.members_given_fault.Goals as goal

pub returns-else-is_empty : goal.returns-else-is_empty
returns-else-is_empty c = some_given c.args.part.now c.args.members.now (sym c.is_empty.ensures ∙ c.if-is_empty.false)
