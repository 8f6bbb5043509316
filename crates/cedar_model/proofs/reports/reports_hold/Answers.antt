use Rattle.cedar_model.proofs.Bounds
use Rattle.cedar_model.proofs.reports.reports_hold.Goals as goal

pub returns : goal.returns
returns c = Bounds.reports_hold
