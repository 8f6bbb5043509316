use Rattle.cedar_model.proofs.Computed.{computed, opened}
use Rattle.std.proofs.Common.{refl}
use Rattle.std.specs.Prelude.{false}
use Rattle.cedar_model.proofs.examples.operators_answer.Goals as goal

pub returns-clause-overflow_above : goal.returns-clause-overflow_above
unfolding opened
returns-clause-overflow_above c = computed false 6 _ _ refl (λ e. cc)

pub returns-clause-overflow_below : goal.returns-clause-overflow_below
unfolding opened
returns-clause-overflow_below c = computed false 6 _ _ refl (λ e. cc)

pub returns-clause-first_error_by_key : goal.returns-clause-first_error_by_key
unfolding opened
returns-clause-first_error_by_key c = computed false 6 _ _ refl (λ e. cc)

pub returns-clause-left_error_first : goal.returns-clause-left_error_first
unfolding opened
returns-clause-left_error_first c = computed false 6 _ _ refl (λ e. cc)

pub returns-clause-less_beside_long : goal.returns-clause-less_beside_long
unfolding opened
returns-clause-less_beside_long c = computed false 6 _ _ refl (λ e. cc)

pub returns-clause-less_of_texts : goal.returns-clause-less_of_texts
unfolding opened
returns-clause-less_of_texts c = computed false 6 _ _ refl (λ e. cc)

pub returns-clause-contains_all_of_long : goal.returns-clause-contains_all_of_long
unfolding opened
returns-clause-contains_all_of_long c = computed false 6 _ _ refl (λ e. cc)

pub returns-clause-set_once : goal.returns-clause-set_once
unfolding opened
returns-clause-set_once c = computed false 6 _ _ refl (λ e. cc)

pub returns-clause-empty_set : goal.returns-clause-empty_set
unfolding opened
returns-clause-empty_set c = computed false 6 _ _ refl (λ e. cc)
