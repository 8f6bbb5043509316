use Rattle.cedar_model.proofs.Computed.{computed, opened}
use Rattle.std.proofs.Common.{refl}
use Rattle.std.specs.Prelude.{true, false}
use Rattle.cedar_model.proofs.examples.stores_answer.Goals as goal

pub returns-clause-known_principal : goal.returns-clause-known_principal
unfolding opened
returns-clause-known_principal c = computed false 6 _ _ refl (λ e. cc)

pub returns-clause-slot_not_reached : goal.returns-clause-slot_not_reached
unfolding opened
returns-clause-slot_not_reached c = computed false 6 _ _ refl (λ e. cc)

pub returns-clause-slot_unlinked : goal.returns-clause-slot_unlinked
unfolding opened
returns-clause-slot_unlinked c = computed false 6 _ _ refl (λ e. cc)

pub returns-clause-missing_attribute_of : goal.returns-clause-missing_attribute_of
unfolding opened
returns-clause-missing_attribute_of c = computed false 6 _ _ refl (λ e. cc)

pub returns-clause-missing_has : goal.returns-clause-missing_has
unfolding opened
returns-clause-missing_has c = computed false 6 _ _ refl (λ e. cc)

pub returns-clause-attribute_missing : goal.returns-clause-attribute_missing
unfolding opened
returns-clause-attribute_missing c = computed false 6 _ _ refl (λ e. cc)

pub returns-clause-tag_missing : goal.returns-clause-tag_missing
unfolding opened
returns-clause-tag_missing c = computed false 6 _ _ refl (λ e. cc)

pub returns-clause-tag_as_stored : goal.returns-clause-tag_as_stored
unfolding opened
returns-clause-tag_as_stored c = computed false 6 _ _ refl (λ e. cc)

pub returns-clause-has_tag : goal.returns-clause-has_tag
unfolding opened
returns-clause-has_tag c = computed false 6 _ _ refl (λ e. cc)

pub returns-clause-attribute_through_map : goal.returns-clause-attribute_through_map
unfolding opened
returns-clause-attribute_through_map c = computed false 6 _ _ refl (λ e. cc)

pub returns-clause-attribute_as_stored : goal.returns-clause-attribute_as_stored
unfolding opened
returns-clause-attribute_as_stored c = computed false 6 _ _ refl (λ e. cc)

pub returns-clause-in_ancestor : goal.returns-clause-in_ancestor
unfolding opened
returns-clause-in_ancestor c = computed false 6 _ _ refl (λ e. cc)

pub returns-clause-in_missing_concrete : goal.returns-clause-in_missing_concrete
unfolding opened
returns-clause-in_missing_concrete c = computed false 6 _ _ refl (λ e. cc)

pub returns-clause-in_itself : goal.returns-clause-in_itself
unfolding opened
returns-clause-in_itself c = computed false 6 _ _ refl (λ e. cc)

pub returns-clause-in_missing_partial : goal.returns-clause-in_missing_partial
unfolding opened
returns-clause-in_missing_partial c = computed true 6 _ _ refl (λ e. cc)

pub returns-clause-in_any_right : goal.returns-clause-in_any_right
unfolding opened
returns-clause-in_any_right c = computed true 6 _ _ refl (λ e. cc)

pub returns-clause-in_a_long : goal.returns-clause-in_a_long
unfolding opened
returns-clause-in_a_long c = computed false 6 _ _ refl (λ e. cc)

pub returns-clause-in_mixed_set : goal.returns-clause-in_mixed_set
unfolding opened
returns-clause-in_mixed_set c = computed false 6 _ _ refl (λ e. cc)

pub returns-clause-in_from_a_long : goal.returns-clause-in_from_a_long
unfolding opened
returns-clause-in_from_a_long c = computed false 6 _ _ refl (λ e. cc)
