use Rattle.cedar_text_parser.specs.Refusals.{for_no_argument}
use Rattle.cedar_text_parser.proofs.refusals.no_argument.Goals as goal

pub returns-clause-is : goal.returns-clause-is
returns-clause-is c = rw c.wanted_at.ensures (for_no_argument c.requires.within c.requires.is)
