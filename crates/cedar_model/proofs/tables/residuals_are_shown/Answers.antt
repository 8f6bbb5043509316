use Rattle.cedar_model.proofs.Tabled.{shown}
use Rattle.cedar_model.proofs.Computed.{opened}
use Rattle.std.proofs.Common.{refl}
use Rattle.std.specs.Prelude.{true, false}
use Rattle.cedar_model.proofs.tables.residuals_are_shown.Goals as goal

pub returns-clause-unary_kept : goal.returns-clause-unary_kept
unfolding opened
returns-clause-unary_kept c = shown false 6 _ _ refl (λ e. cc)

pub returns-clause-false_or_kept : goal.returns-clause-false_or_kept
unfolding opened
returns-clause-false_or_kept c = shown false 6 _ _ refl (λ e. cc)

pub returns-clause-residual_beside_value : goal.returns-clause-residual_beside_value
unfolding opened
returns-clause-residual_beside_value c = shown false 6 _ _ refl (λ e. cc)

pub returns-clause-residual_beside_residual : goal.returns-clause-residual_beside_residual
unfolding opened
returns-clause-residual_beside_residual c = shown false 6 _ _ refl (λ e. cc)

pub returns-clause-tag_of_missing_partial : goal.returns-clause-tag_of_missing_partial
unfolding opened
returns-clause-tag_of_missing_partial c = shown true 6 _ _ refl (λ e. cc)

pub returns-clause-has_tag_of_missing_partial : goal.returns-clause-has_tag_of_missing_partial
unfolding opened
returns-clause-has_tag_of_missing_partial c = shown true 6 _ _ refl (λ e. cc)

pub returns-clause-attribute_of_missing_partial : goal.returns-clause-attribute_of_missing_partial
unfolding opened
returns-clause-attribute_of_missing_partial c = shown true 6 _ _ refl (λ e. cc)

pub returns-clause-has_of_missing_partial : goal.returns-clause-has_of_missing_partial
unfolding opened
returns-clause-has_of_missing_partial c = shown true 6 _ _ refl (λ e. cc)

pub returns-clause-attribute_of_residual : goal.returns-clause-attribute_of_residual
unfolding opened
returns-clause-attribute_of_residual c = shown false 6 _ _ refl (λ e. cc)

pub returns-clause-key_not_in_other_record : goal.returns-clause-key_not_in_other_record
unfolding opened
returns-clause-key_not_in_other_record c = shown false 6 _ _ refl (λ e. cc)

pub returns-clause-path_of_residual : goal.returns-clause-path_of_residual
unfolding opened
returns-clause-path_of_residual c = shown false 6 _ _ refl (λ e. cc)

pub returns-clause-record_with_unknown : goal.returns-clause-record_with_unknown
unfolding opened
returns-clause-record_with_unknown c = shown false 6 _ _ refl (λ e. cc)

pub returns-clause-function_asks : goal.returns-clause-function_asks
unfolding opened
returns-clause-function_asks c = shown false 6 _ _ refl (λ e. cc)
