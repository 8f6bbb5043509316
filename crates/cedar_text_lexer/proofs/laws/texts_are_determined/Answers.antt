use Rattle.cedar_text_lexer.proofs.Determined.{text_once, text_refused}
use Rattle.cedar_text_lexer.proofs.laws.texts_are_determined.Goals as goal

pub returns-clause-one : goal.returns-clause-one
returns-clause-one c = λ bs a b x y. text_once x b y

pub returns-clause-none : goal.returns-clause-none
returns-clause-none c = λ bs a n m x y. text_refused y a x
