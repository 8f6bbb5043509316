use Rattle.cedar_authorizer.proofs.Promised.{decided_rows, given_holds}
use Rattle.cedar_authorizer.proofs.responses.partial_response.PartialResponse.decision.Goals as goal

pub returns-clause-holds : goal.returns-clause-holds
returns-clause-holds c =
    given_holds _ _ (decided_rows _ _ _ _ _ _ c.has_true_permit.ensures c.has_residual_permit.ensures c.has_true_forbid.ensures c.has_residual_forbid.ensures c.decide.ensures)
