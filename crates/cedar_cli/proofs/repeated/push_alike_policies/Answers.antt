-- One policy after another.
use Rattle.std.proofs.Common.{map, ap, ◌∙◌, string_bytes}
use Rattle.cedar_layers.specs.PolicySets.{policies_left, stored_policies}
use Rattle.cedar_cli.proofs.Stating.{none_alike_yet, one_alike, all_alike}
use Rattle.cedar_cli.proofs.repeated.push_alike_policies.Goals as goal

pub policies-init : goal.policies-init
policies-init c =
    none_alike_yet c.args.places.now.source (stored_policies c.args.policies.now) (string_bytes c.args.warnings.now) _ _
    (ap (map (λ p. p.now)) c.new-before.ensures.items)
    (ap policies_left c.into_iter-policy-iterator.ensures.into_iter_gives ∙ c.policies-policy-items.ensures.whole)

pub policies-preserved : goal.policies-preserved
policies-preserved c =
    one_alike c.args.places.now.source (stored_policies c.args.policies.now) (string_bytes c.args.warnings.now)
    (map (λ p. p.now) c.policies.before.items) _ (policies_left c.policies.policy-iterator) (policies_left c.next.new.self)
    c.in-Some.policy.now (string_bytes c.policies.warnings) (string_bytes c.push_if_alike.new.warnings)
    c.in-Some.ensures.steps c.in_ok-push_if_alike.ensures.before c.in_ok-push_if_alike.ensures.line c.policies.invariant

pub returns : goal.returns
returns c =
    all_alike c.args.places.now.source (stored_policies c.args.policies.now) (string_bytes c.args.warnings.now)
    (map (λ p. p.now) c.policies.before.items) (policies_left c.policies.policy-iterator)
    (string_bytes c.policies.warnings) c.in-None.ensures.steps.0 c.policies.invariant
