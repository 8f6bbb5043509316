use Rattle.cedar_model.proofs.Computed.{computed, opened}
use Rattle.std.proofs.Common.{refl}
use Rattle.std.specs.Prelude.{false}
use Rattle.cedar_model.proofs.examples.unknowns_answer.Goals as goal

pub returns-clause-mapped_with_type : goal.returns-clause-mapped_with_type
unfolding opened
returns-clause-mapped_with_type c = computed false 6 _ _ refl (λ e. cc)

pub returns-clause-mapped_with_other_type : goal.returns-clause-mapped_with_other_type
unfolding opened
returns-clause-mapped_with_other_type c = computed false 6 _ _ refl (λ e. cc)

pub returns-clause-kept_beside_true : goal.returns-clause-kept_beside_true
unfolding opened
returns-clause-kept_beside_true c = computed false 6 _ _ refl (λ e. cc)

pub returns-clause-false_beside_unknown : goal.returns-clause-false_beside_unknown
unfolding opened
returns-clause-false_beside_unknown c = computed false 6 _ _ refl (λ e. cc)

pub returns-clause-or_keeps : goal.returns-clause-or_keeps
unfolding opened
returns-clause-or_keeps c = computed false 6 _ _ refl (λ e. cc)

pub returns-clause-best_effort_keeps : goal.returns-clause-best_effort_keeps
unfolding opened
returns-clause-best_effort_keeps c = computed false 6 _ _ refl (λ e. cc)

pub returns-clause-best_effort_simplifies : goal.returns-clause-best_effort_simplifies
unfolding opened
returns-clause-best_effort_simplifies c = computed false 6 _ _ refl (λ e. cc)

pub returns-clause-guard_keeps : goal.returns-clause-guard_keeps
unfolding opened
returns-clause-guard_keeps c = computed false 6 _ _ refl (λ e. cc)

pub returns-clause-value_beside_residual : goal.returns-clause-value_beside_residual
unfolding opened
returns-clause-value_beside_residual c = computed false 6 _ _ refl (λ e. cc)

pub returns-clause-right_error_shows : goal.returns-clause-right_error_shows
unfolding opened
returns-clause-right_error_shows c = computed false 6 _ _ refl (λ e. cc)

pub returns-clause-apart_by_annotation : goal.returns-clause-apart_by_annotation
unfolding opened
returns-clause-apart_by_annotation c = computed false 6 _ _ refl (λ e. cc)

pub returns-clause-kept_by_annotation : goal.returns-clause-kept_by_annotation
unfolding opened
returns-clause-kept_by_annotation c = computed false 6 _ _ refl (λ e. cc)

pub returns-clause-kept_without_annotation : goal.returns-clause-kept_without_annotation
unfolding opened
returns-clause-kept_without_annotation c = computed false 6 _ _ refl (λ e. cc)

pub returns-clause-unknowns_apart : goal.returns-clause-unknowns_apart
unfolding opened
returns-clause-unknowns_apart c = computed false 6 _ _ refl (λ e. cc)

pub returns-clause-is_by_annotation : goal.returns-clause-is_by_annotation
unfolding opened
returns-clause-is_by_annotation c = computed false 6 _ _ refl (λ e. cc)

pub returns-clause-is_kept : goal.returns-clause-is_kept
unfolding opened
returns-clause-is_kept c = computed false 6 _ _ refl (λ e. cc)
