use Rattle.std.specs.Prelude.{true}
use Rattle.std.proofs.Common.{refl}
use Rattle.cedar_model.specs.Terms.{both}
use Rattle.cedar_model.specs.Failures.{answers_bool, answers_residual, limit}
use Rattle.cedar_model.specs.examples.Setting.{x}
use Rattle.cedar_model.specs.examples.Needs.{two_nots, a_projection}
use Rattle.cedar_model.proofs.Computed.{computed_at, opened}
use Rattle.cedar_model.proofs.examples.needs_are_levels.Goals as goal

pub returns-clause-nots : goal.returns-clause-nots
unfolding opened
returns-clause-nots c = (computed_at true 3 two_nots (answers_bool true) refl, computed_at true 2 two_nots limit refl)

pub returns-clause-best_effort : goal.returns-clause-best_effort
unfolding opened
returns-clause-best_effort c = computed_at true 3 (both x two_nots) limit refl

pub returns-clause-projection : goal.returns-clause-projection
unfolding opened
returns-clause-projection c =
    (computed_at true 3 a_projection (answers_residual x) refl, computed_at true 2 a_projection limit refl)
