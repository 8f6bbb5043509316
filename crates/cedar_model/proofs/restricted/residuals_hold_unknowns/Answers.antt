use Rattle.cedar_model.proofs.HeldUnknowns.{holds_unknown}
use Rattle.cedar_model.proofs.restricted.residuals_hold_unknowns.Goals as goal

pub returns : goal.returns
returns g c = λ s. holds_unknown s _
