use Rattle.cedar_model.proofs.Computed.{computed, opened}
use Rattle.std.proofs.Common.{refl}
use Rattle.std.specs.Prelude.{false}
use Rattle.cedar_model.proofs.examples.parts_answer.Goals as goal

pub returns-clause-projected : goal.returns-clause-projected
unfolding opened
returns-clause-projected c = computed false 6 _ _ refl (λ e. cc)

pub returns-clause-projected_through_map : goal.returns-clause-projected_through_map
unfolding opened
returns-clause-projected_through_map c = computed false 6 _ _ refl (λ e. cc)

pub returns-clause-not_projected : goal.returns-clause-not_projected
unfolding opened
returns-clause-not_projected c = computed false 6 _ _ refl (λ e. cc)

pub returns-clause-key_not_there : goal.returns-clause-key_not_there
unfolding opened
returns-clause-key_not_there c = computed false 6 _ _ refl (λ e. cc)

pub returns-clause-has_in_projectable : goal.returns-clause-has_in_projectable
unfolding opened
returns-clause-has_in_projectable c = computed false 6 _ _ refl (λ e. cc)

pub returns-clause-has_kept : goal.returns-clause-has_kept
unfolding opened
returns-clause-has_kept c = computed false 6 _ _ refl (λ e. cc)

pub returns-clause-set_with_unknown : goal.returns-clause-set_with_unknown
unfolding opened
returns-clause-set_with_unknown c = computed false 6 _ _ refl (λ e. cc)

pub returns-clause-like_kept : goal.returns-clause-like_kept
unfolding opened
returns-clause-like_kept c = computed false 6 _ _ refl (λ e. cc)
