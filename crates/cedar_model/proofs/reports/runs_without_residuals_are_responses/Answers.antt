use Rattle.cedar_model.proofs.Concrete.{run_is_response}
use Rattle.cedar_model.proofs.reports.runs_without_residuals_are_responses.Goals as goal

pub returns : goal.returns
returns g c = λ mode s levels ps rows errors. run_is_response mode _ s levels ps rows errors
