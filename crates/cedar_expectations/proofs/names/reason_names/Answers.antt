use Rattle.std.proofs.Common.{map, ap, string_bytes}
use Rattle.cedar_layers.specs.Policies.{policy_view}
use Rattle.cedar_layers.specs.PolicySets.{policies_left}
use Rattle.cedar_authorizer.specs.responses.Responses.{has_id}
use Rattle.cedar_json_writer.proofs.Listed.{no_more}
use Rattle.cedar_expectations.proofs.Listing.{goes_on}
use Rattle.cedar_expectations.specs.Named.{called_if, called_where}
use Rattle.cedar_expectations.proofs.names.reason_names.Goals as goal

pub policies-preserved : goal.policies-preserved
policies-preserved c =
    let is = has_id c.args.reasons.now in
    let p = policy_view c.in-Some.policy.now in
    let rest = map policy_view (policies_left c.next.new.self) in
    goes_on (map string_bytes c.policies.names.items) _ _ (called_if is p) (called_where is rest) _
    c.in_ok-put_reason.ensures
    (ap (λ ps. called_where is (map policy_view ps)) c.in-Some.ensures.steps)
    c.policies.invariant

pub returns : goal.returns
returns c =
    let is = has_id c.args.reasons.now in
    no_more _ _ _ (ap (λ ps. called_where is (map policy_view ps)) c.in-None.ensures.steps.0) c.policies.invariant
