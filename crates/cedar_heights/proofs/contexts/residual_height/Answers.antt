use Rattle.cedar_heights.proofs.Given.{residual_told, one_of_both}
use Rattle.cedar_heights.proofs.contexts.residual_height.Goals as goal

pub returns-in-Some : goal.returns-in-Some
returns-in-Some c =
    residual_told c.args.context.now c.in-Some.parts.now c.fields_height.result c.in-Some.ensures.map
    c.fields_height.ensures

pub returns-in-None : goal.returns-in-None
returns-in-None c = one_of_both c.args.context.now c.requires c.in-None.ensures.map
