use Rattle.std.proofs.Common.{◌∙◌}
use Rattle.cedar_values.proofs.SetMembers.{empty-listed}
use Rattle.cedar_values.proofs.value.Set.is_empty.Goals as goal

pub returns : goal.returns
returns c = c.is_empty.ensures ∙ empty-listed c.as_slice.result.now c.args.self.now.all c.as_slice.ensures.all
