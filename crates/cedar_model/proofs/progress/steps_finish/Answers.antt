use Rattle.cedar_model.proofs.Finishing as finishing
use Rattle.cedar_model.proofs.progress.steps_finish.Goals as goal

pub returns : goal.returns
returns g c = finishing.steps_finish _
