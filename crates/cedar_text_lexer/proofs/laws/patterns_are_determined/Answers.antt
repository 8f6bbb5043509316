use Rattle.cedar_text_lexer.proofs.Determined.{pattern_once, pattern_refused}
use Rattle.cedar_text_lexer.proofs.laws.patterns_are_determined.Goals as goal

pub returns-clause-one : goal.returns-clause-one
returns-clause-one c = λ bs a b x y. pattern_once x b y

pub returns-clause-none : goal.returns-clause-none
returns-clause-none c = λ bs a n m x y. pattern_refused y a x
