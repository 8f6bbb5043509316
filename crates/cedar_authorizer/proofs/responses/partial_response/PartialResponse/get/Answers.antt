use Rattle.std.proofs.Common.{◌≡◌, Some, subst}
use Rattle.std.proofs.lemmas.Result.{IfOk-weaker}
use Rattle.cedar_model.specs.Policies.{permit, forbid}
use Rattle.cedar_layers.specs.Policies.{policy_id_text}
use Rattle.cedar_authorizer.specs.responses.Rows.{located_view}
use Rattle.cedar_authorizer.specs.responses.Readers.{IsPolicyFound, first_at, in_order_of_get}
use Rattle.cedar_authorizer.proofs.Getting.{found_before, found_after, got_policy}
use Rattle.cedar_authorizer.proofs.responses.partial_response.PartialResponse.get.Goals as goal

pub returns-in-Some-clause-located : goal.returns-in-Some-clause-located
returns-in-Some-clause-located c =
    let ls = located_view c.args.self.now in
    let id = policy_id_text c.args.id.now in
    found_before id (in_order_of_get permit ls) (in_order_of_get forbid ls) _
    (subst (IsPolicyFound (first_at id (in_order_of_get permit ls))) c.in-Some.is c.in_ok-policy.ensures)

pub returns-in-Some-clause-policy : goal.returns-in-Some-clause-policy
returns-in-Some-clause-policy c =
    got_policy (Some c.in-Some.policy) (policy_id_text c.args.id.now) (located_view c.args.self.now) (returns-in-Some-clause-located c)

pub returns-in-None-clause-located : goal.returns-in-None-clause-located
returns-in-None-clause-located c =
    let ls = located_view c.args.self.now in
    let id = policy_id_text c.args.id.now in
    IfOk-weaker c.get_forbid.result _ _ (λ o h.
    found_after id (in_order_of_get permit ls) (in_order_of_get forbid ls) o
    (subst (IsPolicyFound (first_at id (in_order_of_get permit ls))) c.in-None.is c.in_ok-policy.ensures) h) c.get_forbid.ensures

pub returns-in-None-clause-policy : goal.returns-in-None-clause-policy
returns-in-None-clause-policy c =
    IfOk-weaker c.get_forbid.result _ _ (λ o h. got_policy o (policy_id_text c.args.id.now) (located_view c.args.self.now) h)
    (returns-in-None-clause-located c)
