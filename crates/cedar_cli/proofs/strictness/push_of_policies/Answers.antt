-- One policy after another.
use Rattle.std.proofs.Common.{ap, ◌∙◌, string_bytes}
use Rattle.cedar_layers.specs.PolicySets.{policies_left, stored_policies}
use Rattle.cedar_cli.specs.Strict.{finding_view}
use Rattle.cedar_cli.proofs.Stating.{none_yet, one_found, all_told}
use Rattle.cedar_cli.proofs.strictness.push_of_policies.Goals as goal

pub policies-init : goal.policies-init
policies-init c =
    none_yet (finding_view c.args.finding) c.args.places.now.source (stored_policies c.args.policies.now)
    (string_bytes c.args.warnings.now) _
    (ap policies_left c.into_iter-policy-iterator.ensures.into_iter_gives ∙ c.policies-policy-items.ensures.whole)

pub policies-preserved : goal.policies-preserved
policies-preserved c =
    one_found (finding_view c.args.finding) c.args.places.now.source (stored_policies c.args.policies.now)
    (string_bytes c.args.warnings.now) (policies_left c.policies.policy-iterator) (policies_left c.next.new.self)
    c.in-Some.policy.now (string_bytes c.policies.warnings) (string_bytes c.push_if_found.new.warnings)
    c.in-Some.ensures.steps c.in_ok-push_if_found.ensures c.policies.invariant

pub returns : goal.returns
returns c =
    all_told (finding_view c.args.finding) c.args.places.now.source (stored_policies c.args.policies.now)
    (string_bytes c.args.warnings.now) (policies_left c.policies.policy-iterator) (string_bytes c.policies.warnings)
    c.in-None.ensures.steps.0 c.policies.invariant
