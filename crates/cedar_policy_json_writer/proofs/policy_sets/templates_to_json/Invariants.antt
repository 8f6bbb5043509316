use Rattle.std.proofs.Common.{◌≡◌, ◌++◌, map, drop}
use Rattle.cedar_layers.specs.Policies.{policy_view}
use Rattle.cedar_json_writer.specs.Trees.{members_seen}
use Rattle.cedar_policy_json_writer.specs.PolicySets.{template_member}
use Rattle.cedar_policy_json_writer.proofs.policy_sets.templates_to_json.Given as goal

-- those that are written, and those that are left
abbrev pub invariant-templates : goal.invariant-templates
invariant-templates l =
    members_seen l.members.items ++ map template_member (map policy_view (drop l.template-index l.fn.templates))
    ≡ map template_member (map policy_view l.fn.templates)
