use Rattle.cedar_text_formatter.proofs.Determined.{unique}
use Rattle.cedar_text_formatter.proofs.laws.pieces_are_determined.Goals as goal

pub returns : goal.returns
returns c = λ text a b x y. unique x b y
