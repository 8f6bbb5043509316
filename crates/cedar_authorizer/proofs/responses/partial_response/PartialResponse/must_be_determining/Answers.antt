use Rattle.cedar_authorizer.proofs.Promised.{must_denied, must_allowed}
use Rattle.cedar_authorizer.proofs.responses.partial_response.PartialResponse.must_be_determining.Goals as goal

pub returns-then-may_forbid-clause-reasons : goal.returns-then-may_forbid-clause-reasons
returns-then-may_forbid-clause-reasons c =
    must_denied _ _ _ c.may_forbid.ensures c.if-may_forbid.true c.choose_policies.ensures.rows

pub returns-else-may_forbid-clause-reasons : goal.returns-else-may_forbid-clause-reasons
returns-else-may_forbid-clause-reasons c =
    must_allowed _ _ _ c.may_forbid.ensures c.if-may_forbid.false c.choose_policies-else-may_forbid.ensures.rows
