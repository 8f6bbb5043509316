use Rattle.cedar_model.specs.Policies.{permit}
use Rattle.cedar_authorizer.specs.responses.Rows.{located_true}
use Rattle.cedar_authorizer.proofs.Rows.{some_of, trues_permit}
use Rattle.cedar_authorizer.proofs.responses.partial_response.PartialResponse.has_true_permit.Goals as goal

pub returns : goal.returns
returns c = some_of (located_true permit) c.args.self.now.satisfied_permits.entries _ c.is_empty.ensures _ (trues_permit c.args.self.now)
