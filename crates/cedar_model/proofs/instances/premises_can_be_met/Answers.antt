use Rattle.cedar_model.proofs.Instanced.{completes, functions_answer, none_must, waiting_sound}
use Rattle.cedar_model.proofs.instances.premises_can_be_met.Goals as goal

pub returns-clause-completed : goal.returns-clause-completed
returns-clause-completed g = completes

pub returns-clause-functions : goal.returns-clause-functions
returns-clause-functions g = functions_answer

pub returns-clause-none : goal.returns-clause-none
returns-clause-none g = none_must

pub returns-clause-sound : goal.returns-clause-sound
returns-clause-sound g = waiting_sound
