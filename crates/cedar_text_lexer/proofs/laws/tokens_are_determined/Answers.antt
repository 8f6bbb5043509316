use Rattle.cedar_text_lexer.proofs.Unique.{unique}
use Rattle.cedar_text_lexer.proofs.laws.tokens_are_determined.Goals as goal

pub returns : goal.returns
returns c = λ text a b x y. unique x b y
