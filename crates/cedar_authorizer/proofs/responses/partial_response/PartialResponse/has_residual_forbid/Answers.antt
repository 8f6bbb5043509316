use Rattle.cedar_model.specs.Policies.{forbid}
use Rattle.cedar_authorizer.specs.responses.Rows.{located_residual}
use Rattle.cedar_authorizer.proofs.Rows.{some_of, residuals_forbid}
use Rattle.cedar_authorizer.proofs.responses.partial_response.PartialResponse.has_residual_forbid.Goals as goal

pub returns : goal.returns
returns c = some_of (located_residual forbid) c.args.self.now.residual_forbids.entries _ c.is_empty.ensures _ (residuals_forbid c.args.self.now)
