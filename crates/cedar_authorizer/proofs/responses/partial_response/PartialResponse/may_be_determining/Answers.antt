use Rattle.cedar_authorizer.proofs.Promised.{may_denied, may_allowed}
use Rattle.cedar_authorizer.proofs.responses.partial_response.PartialResponse.may_be_determining.Goals as goal

pub returns-then-has_true_forbid-clause-reasons : goal.returns-then-has_true_forbid-clause-reasons
returns-then-has_true_forbid-clause-reasons c =
    may_denied _ _ _ c.has_true_forbid.ensures c.if-has_true_forbid.true c.choose_policies.ensures.rows

pub returns-else-has_true_forbid-clause-reasons : goal.returns-else-has_true_forbid-clause-reasons
returns-else-has_true_forbid-clause-reasons c =
    may_allowed _ _ _ c.has_true_forbid.ensures c.if-has_true_forbid.false c.choose_policies-else-has_true_forbid.ensures.rows
