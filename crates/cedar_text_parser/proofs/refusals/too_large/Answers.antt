use Rattle.cedar_text_parser.specs.Refusals.{for_long}
use Rattle.cedar_text_parser.proofs.refusals.too_large.Goals as goal

pub returns : goal.returns
returns c = rw c.wanted_at.ensures (for_long c.requires.within c.requires.large)
