use Rattle.cedar_model.specs.Policies.{forbid}
use Rattle.cedar_authorizer.specs.responses.Rows.{located_true}
use Rattle.cedar_authorizer.proofs.Rows.{some_of, trues_forbid}
use Rattle.cedar_authorizer.proofs.responses.partial_response.PartialResponse.has_true_forbid.Goals as goal

pub returns : goal.returns
returns c = some_of (located_true forbid) c.args.self.now.satisfied_forbids.entries _ c.is_empty.ensures _ (trues_forbid c.args.self.now)
