use Rattle.cedar_model.specs.Policies.{permit}
use Rattle.cedar_authorizer.specs.responses.Rows.{located_residual}
use Rattle.cedar_authorizer.proofs.Rows.{some_of, residuals_permit}
use Rattle.cedar_authorizer.proofs.responses.partial_response.PartialResponse.has_residual_permit.Goals as goal

pub returns : goal.returns
returns c = some_of (located_residual permit) c.args.self.now.residual_permits.entries _ c.is_empty.ensures _ (residuals_permit c.args.self.now)
