use Rattle.std.proofs.Common.{◌++◌, IfOk, subst, sym}
use Rattle.cedar_layers.specs.Policies.{policy_id_text}
use Rattle.cedar_authorizer.specs.responses.Readers.{IsPolicyFound, first_at}
use Rattle.cedar_authorizer.proofs.Rows.{true_permits, false_permits, residual_permits}
use Rattle.cedar_authorizer.proofs.responses.partial_response.PartialResponse.get_permit.Goals as goal

pub returns : goal.returns
returns c =
    let r = c.args.self.now in
    subst (λ ls. IfOk c.get_of.result (IsPolicyFound (first_at (policy_id_text c.args.id.now) ls)))
    (sym (λ i. residual_permits r i ++ (true_permits r i ++ false_permits r i))) c.get_of.ensures
