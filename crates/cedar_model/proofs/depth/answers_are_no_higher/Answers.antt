use Rattle.cedar_model.proofs.LowAnswers.{answers_low, contexts_low}
use Rattle.cedar_model.proofs.depth.answers_are_no_higher.Goals as goal

pub returns-clause-answers : goal.returns-clause-answers
returns-clause-answers g i = λ s m b k. answers_low m s _ b k.is_within k.given_is_sound k.is_no_higher

pub returns-clause-contexts : goal.returns-clause-contexts
returns-clause-contexts g i = λ s m b k. contexts_low m s _ b k.is_within k.given_is_sound k.is_no_higher
