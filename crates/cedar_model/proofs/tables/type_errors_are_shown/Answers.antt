use Rattle.cedar_model.proofs.Tabled.{shown}
use Rattle.cedar_model.proofs.Computed.{opened}
use Rattle.std.proofs.Common.{refl}
use Rattle.std.specs.Prelude.{true, false}
use Rattle.cedar_model.specs.Responses.{decided_bool, decided, result_of}
use Rattle.cedar_model.proofs.tables.type_errors_are_shown.Goals as goal

pub returns-clause-guard_expects_bool : goal.returns-clause-guard_expects_bool
unfolding opened
returns-clause-guard_expects_bool c = shown false 6 _ _ refl (λ e. cc)

pub returns-clause-not_expects_bool : goal.returns-clause-not_expects_bool
unfolding opened
returns-clause-not_expects_bool c = shown false 6 _ _ refl (λ e. cc)

pub returns-clause-and_left_expects_bool : goal.returns-clause-and_left_expects_bool
unfolding opened
returns-clause-and_left_expects_bool c = shown false 6 _ _ refl (λ e. cc)

pub returns-clause-and_right_expects_bool : goal.returns-clause-and_right_expects_bool
unfolding opened
returns-clause-and_right_expects_bool c = shown false 6 _ _ refl (λ e. cc)

pub returns-clause-or_left_expects_bool : goal.returns-clause-or_left_expects_bool
unfolding opened
returns-clause-or_left_expects_bool c = shown false 6 _ _ refl (λ e. cc)

pub returns-clause-or_right_expects_bool : goal.returns-clause-or_right_expects_bool
unfolding opened
returns-clause-or_right_expects_bool c = shown false 6 _ _ refl (λ e. cc)

pub returns-clause-neg_expects_long : goal.returns-clause-neg_expects_long
unfolding opened
returns-clause-neg_expects_long c = shown false 6 _ _ refl (λ e. cc)

pub returns-clause-add_expects_long_left : goal.returns-clause-add_expects_long_left
unfolding opened
returns-clause-add_expects_long_left c = shown false 6 _ _ refl (λ e. cc)

pub returns-clause-sub_expects_long_right : goal.returns-clause-sub_expects_long_right
unfolding opened
returns-clause-sub_expects_long_right c = shown false 6 _ _ refl (λ e. cc)

pub returns-clause-mul_expects_long_left : goal.returns-clause-mul_expects_long_left
unfolding opened
returns-clause-mul_expects_long_left c = shown false 6 _ _ refl (λ e. cc)

pub returns-clause-less_eq_beside_long : goal.returns-clause-less_eq_beside_long
unfolding opened
returns-clause-less_eq_beside_long c = shown false 6 _ _ refl (λ e. cc)

pub returns-clause-extension_beside_long : goal.returns-clause-extension_beside_long
unfolding opened
returns-clause-extension_beside_long c = shown false 6 _ _ refl (λ e. cc)

pub returns-clause-overloaded_left : goal.returns-clause-overloaded_left
unfolding opened
returns-clause-overloaded_left c = shown false 6 _ _ refl (λ e. cc)

pub returns-clause-overloaded_right : goal.returns-clause-overloaded_right
unfolding opened
returns-clause-overloaded_right c = shown false 6 _ _ refl (λ e. cc)

pub returns-clause-other_extensions : goal.returns-clause-other_extensions
unfolding opened
returns-clause-other_extensions c = shown false 6 _ _ refl (λ e. cc)

pub returns-clause-contains_expects_set : goal.returns-clause-contains_expects_set
unfolding opened
returns-clause-contains_expects_set c = shown false 6 _ _ refl (λ e. cc)

pub returns-clause-contains_any_left_first : goal.returns-clause-contains_any_left_first
unfolding opened
returns-clause-contains_any_left_first c = shown false 6 _ _ refl (λ e. cc)

pub returns-clause-contains_any_right : goal.returns-clause-contains_any_right
unfolding opened
returns-clause-contains_any_right c = shown false 6 _ _ refl (λ e. cc)

pub returns-clause-is_empty_expects_set : goal.returns-clause-is_empty_expects_set
unfolding opened
returns-clause-is_empty_expects_set c = shown false 6 _ _ refl (λ e. cc)

pub returns-clause-get_tag_expects_entity : goal.returns-clause-get_tag_expects_entity
unfolding opened
returns-clause-get_tag_expects_entity c = shown false 6 _ _ refl (λ e. cc)

pub returns-clause-has_tag_expects_entity : goal.returns-clause-has_tag_expects_entity
unfolding opened
returns-clause-has_tag_expects_entity c = shown false 6 _ _ refl (λ e. cc)

pub returns-clause-is_expects_entity : goal.returns-clause-is_expects_entity
unfolding opened
returns-clause-is_expects_entity c = shown false 6 _ _ refl (λ e. cc)

pub returns-clause-get_tag_expects_text : goal.returns-clause-get_tag_expects_text
unfolding opened
returns-clause-get_tag_expects_text c = shown false 6 _ _ refl (λ e. cc)

pub returns-clause-has_tag_expects_text : goal.returns-clause-has_tag_expects_text
unfolding opened
returns-clause-has_tag_expects_text c = shown true 6 _ _ refl (λ e. cc)

pub returns-clause-attribute_of_long : goal.returns-clause-attribute_of_long
unfolding opened
returns-clause-attribute_of_long c = shown false 6 _ _ refl (λ e. cc)

pub returns-clause-has_of_long : goal.returns-clause-has_of_long
unfolding opened
returns-clause-has_of_long c = shown false 6 _ _ refl (λ e. cc)

pub returns-clause-policy_expects_bool : goal.returns-clause-policy_expects_bool
unfolding opened decided decided_bool result_of
returns-clause-policy_expects_bool g = refl
