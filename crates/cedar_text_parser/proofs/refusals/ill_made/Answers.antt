use Rattle.cedar_text_parser.specs.Refusals.{for_steps}
use Rattle.cedar_text_parser.proofs.refusals.ill_made.Goals as goal

pub returns : goal.returns
returns c = rw c.text-end.ensures.is for_steps
