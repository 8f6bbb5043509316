use Rattle.std.proofs.Common.{map, ap, ◌∙◌, string_bytes}
use Rattle.cedar_layers.specs.Policies.{policy_view}
use Rattle.cedar_layers.specs.PolicySets.{policies_left, policies_view}
use Rattle.cedar_authorizer.specs.responses.Responses.{has_id}
use Rattle.cedar_cli.proofs.Naming.{no_lines_yet, line_more, lines_of_all}
use Rattle.cedar_cli.proofs.decisions.reason_names.Goals as goal

pub policies-init : goal.policies-init
policies-init c =
    no_lines_yet (has_id c.args.reasons.now) (policies_view c.args.policies.now) _ (string_bytes c.new-lines.result)
    (ap (λ it. map policy_view (policies_left it)) c.into_iter-policy-iterator.ensures.into_iter_gives
    ∙ c.policies-policy-items.ensures.view)
    c.new-lines.ensures.bytes

pub policies-preserved : goal.policies-preserved
policies-preserved c =
    line_more (has_id c.args.reasons.now) (policies_view c.args.policies.now) (policy_view c.in-Some.policy.now) _ _
    (string_bytes c.policies.lines) (string_bytes c.push_reason.new.lines)
    (ap (λ ps. map policy_view ps) c.in-Some.ensures.steps) c.policies.invariant c.in_ok-push_reason.ensures

pub returns : goal.returns
returns c =
    lines_of_all (has_id c.args.reasons.now) (policies_view c.args.policies.now)
    (map policy_view (policies_left c.policies.policy-iterator)) (string_bytes c.policies.lines)
    (ap (λ ps. map policy_view ps) c.in-None.ensures.steps.0) c.policies.invariant
