use Rattle.cedar_model.specs.Rules.{has_part}
use Rattle.cedar_operators.proofs.partial.attributes.has_of_part.Goals as goal

pub returns-in-Value : goal.returns-in-Value
unfolding has_part
returns-in-Value c = λ s. rw c.in-Value.is (c.has_attribute-answer.ensures s)
