use Rattle.std.proofs.Common.{ap, ◌∙◌}
use Rattle.cedar_model.specs.Keys.{value_cmp, value_eq}
use Rattle.cedar_model.specs.lemmas.Keys.{value_cmp-total, value_cmp-equal, value_cmp-self, value_eq-true}
use Rattle.cedar_model.specs.lemmas.Keys.{value_eq-self, value_eq-equivalence}
use Rattle.cedar_model.proofs.values.values_are_ordered.Goals as goal

pub returns-clause-total : goal.returns-clause-total
returns-clause-total c = value_cmp-total

pub returns-clause-equal : goal.returns-clause-equal
returns-clause-equal c = λ a b. (value_cmp-equal a b, λ e. ap (λ x. value_cmp x b) e ∙ value_cmp-self b)

pub returns-clause-test : goal.returns-clause-test
returns-clause-test c = λ a b. (value_eq-true a b, λ e. ap (λ x. value_eq x b) e ∙ value_eq-self b)

pub returns-clause-equivalence : goal.returns-clause-equivalence
returns-clause-equivalence c = value_eq-equivalence
