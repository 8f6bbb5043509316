use Rattle.std.proofs.Common.{refl}
use Rattle.cedar_model.specs.Settings.{shallow, deep}
use Rattle.cedar_model.proofs.Exemplified.{chain_opened}
use Rattle.cedar_model.proofs.StoredSteps as stored
use Rattle.cedar_model.proofs.chain_examples.steps_resolve.Goals as goal

pub returns-clause-read : goal.returns-clause-read
unfolding chain_opened
returns-clause-read c = (
  stored.first,
  stored.read,
  stored.kept,
  stored.begins,
  stored.is_read,
  stored.is_kept,
  refl,
  refl,
  refl,
  refl,
  (refl, refl),
  refl,
  refl,
  refl,
)

pub returns-clause-completed : goal.returns-clause-completed
unfolding chain_opened
returns-clause-completed c = (
  stored.first,
  stored.read,
  stored.begins,
  stored.chained,
  stored.completed,
  refl,
  refl,
  (refl, refl),
  refl,
  refl,
)

pub returns-clause-differ : goal.returns-clause-differ
unfolding chain_opened
returns-clause-differ c = (
  stored.first_of_two,
  stored.middle,
  stored.last deep,
  stored.last shallow,
  stored.two_begin,
  stored.first_step,
  stored.ends_deep,
  stored.ends_shallow,
  refl,
  refl,
  refl,
  refl,
  refl,
  refl,
)

pub returns-clause-differing_completed : goal.returns-clause-differing_completed
unfolding chain_opened
returns-clause-differing_completed c = (
  stored.first_of_two,
  stored.last deep,
  stored.two_begin,
  stored.ends_deep,
  stored.two_completed,
  refl,
  refl,
  (refl, refl),
  refl,
  refl,
)

pub returns-clause-finishes : goal.returns-clause-finishes
unfolding chain_opened
returns-clause-finishes c = (
  stored.first,
  stored.read,
  stored.begins,
  stored.finishes,
  stored.shallow_isn't,
  stored.is_read,
  (refl, refl),
)
