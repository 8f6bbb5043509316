use Rattle.cedar_model.proofs.Computed.{computed, opened}
use Rattle.std.proofs.Common.{refl}
use Rattle.std.specs.Prelude.{true, false}
use Rattle.cedar_model.proofs.examples.paths_answer.Goals as goal

pub returns-clause-path_met_by_residual : goal.returns-clause-path_met_by_residual
unfolding opened
returns-clause-path_met_by_residual c = computed false 6 _ _ refl (λ e. cc)

pub returns-clause-path_last_is_presence : goal.returns-clause-path_last_is_presence
unfolding opened
returns-clause-path_last_is_presence c = computed false 6 _ _ refl (λ e. cc)

pub returns-clause-path_missing_partial : goal.returns-clause-path_missing_partial
unfolding opened
returns-clause-path_missing_partial c = computed true 6 _ _ refl (λ e. cc)

pub returns-clause-path_stops : goal.returns-clause-path_stops
unfolding opened
returns-clause-path_stops c = computed false 6 _ _ refl (λ e. cc)

pub returns-clause-path_of_long : goal.returns-clause-path_of_long
unfolding opened
returns-clause-path_of_long c = computed false 6 _ _ refl (λ e. cc)
