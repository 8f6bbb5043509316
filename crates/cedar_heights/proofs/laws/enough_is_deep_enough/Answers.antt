use Rattle.cedar_heights.proofs.Bounds.{core_enough, step_enough}
use Rattle.cedar_heights.proofs.laws.enough_is_deep_enough.Goals as goal

pub returns-clause-call : goal.returns-clause-call
returns-clause-call g c = core_enough _

pub returns-clause-step : goal.returns-clause-step
returns-clause-step g c = step_enough _
