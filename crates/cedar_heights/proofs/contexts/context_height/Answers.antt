use Rattle.cedar_heights.proofs.Given.{values_told}
use Rattle.cedar_heights.proofs.contexts.context_height.Goals as goal

pub returns-in-Some : goal.returns-in-Some
returns-in-Some c =
    values_told c.args.context.now c.in-Some.values.now c.record_height.result c.in-Some.ensures c.record_height.ensures
