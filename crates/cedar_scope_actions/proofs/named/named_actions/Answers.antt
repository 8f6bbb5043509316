use Rattle.std.proofs.Common.{List, ap, ◌∙◌, map}
use Rattle.cedar_model.specs.Settings.{is_among}
use Rattle.cedar_names.specs.Names.{uid_name}
use Rattle.cedar_layers.specs.Policies.{PolicyView, policy_view}
use Rattle.cedar_layers.specs.PolicySets.{policies_view, policies_left}
use Rattle.cedar_scope_actions.specs.Named.{is_named_action}
use Rattle.cedar_scope_actions.proofs.Naming.{none_yet, passes_policy, passed_policies}
use Rattle.cedar_scope_actions.proofs.named.named_actions.Goals as goal

pub policies-init : goal.policies-init
policies-init c =
    let left = map policy_view (policies_left c.into_iter-policy-iterator.result) in
    λ n. none_yet n c.new-actions.result.keys (is_named_action left n) c.new-actions.ensures.empty
    ∙ ap (λ it. is_named_action (map policy_view (policies_left it)) n) c.into_iter-policy-iterator.ensures.into_iter_gives
    ∙ ap (λ (ps : List PolicyView). is_named_action ps n) c.policies-policy-items.ensures.view

pub policies-preserved : goal.policies-preserved
policies-preserved c =
    let left = map policy_view (policies_left c.policies.policy-iterator) in
    let rest = map policy_view (policies_left c.next.new.self) in
    λ n. passes_policy n (is_among n (map uid_name c.policies.actions.keys)) (is_among n (map uid_name c.add_named.new.actions.keys)) (is_named_action (policies_view c.args.policies.now) n) (policy_view c.in-Some.policy.now) left rest (ap (map policy_view) c.in-Some.ensures.steps) (c.in_ok-add_named.ensures n) (c.policies.invariant n)

pub returns : goal.returns
returns c =
    let left = map policy_view (policies_left c.policies.policy-iterator) in
    λ n. passed_policies n (is_among n (map uid_name c.policies.actions.keys)) (is_named_action (policies_view c.args.policies.now) n) left (ap (map policy_view) c.in-None.ensures.steps.0) (c.policies.invariant n)
