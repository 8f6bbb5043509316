use Rattle.std.proofs.Common.{refl}
use Rattle.cedar_model.specs.Policies.{is_satisfied_by, some_satisfied, satisfied_ids}
use Rattle.cedar_model.proofs.examples.policies_decide.Goals as goal

pub returns-clause-skipped : goal.returns-clause-skipped
unfolding is_satisfied_by some_satisfied satisfied_ids
returns-clause-skipped c = (refl, refl)

pub returns-clause-forbid : goal.returns-clause-forbid
unfolding is_satisfied_by some_satisfied satisfied_ids
returns-clause-forbid c = (refl, refl)

pub returns-clause-nothing : goal.returns-clause-nothing
unfolding is_satisfied_by some_satisfied satisfied_ids
returns-clause-nothing c = (refl, refl)
