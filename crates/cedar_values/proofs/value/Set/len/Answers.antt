use Rattle.cedar_values.proofs.SetMembers.{length-listed}
use Rattle.cedar_values.proofs.value.Set.len.Goals as goal

pub returns : goal.returns
returns c = length-listed c.as_slice.result.now c.args.self.now.all c.as_slice.ensures.all
