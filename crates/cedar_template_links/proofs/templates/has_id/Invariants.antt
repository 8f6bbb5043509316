use Rattle.std.proofs.Common.{◌≡◌, map, drop}
use Rattle.cedar_layers.specs.Policies.{policy_view, policy_id_text}
use Rattle.cedar_template_links.specs.Linking.{has_id}
use Rattle.cedar_template_links.proofs.templates.has_id.Given as goal

abbrev pub invariant-policies : goal.invariant-policies
invariant-policies l =
    has_id (policy_id_text l.fn.id) (map policy_view (drop l.policy-index l.policies))
    ≡ has_id (policy_id_text l.fn.id) (map policy_view l.policies)
