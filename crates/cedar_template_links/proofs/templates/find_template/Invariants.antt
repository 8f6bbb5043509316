use Rattle.std.proofs.Common.{◌≡◌, map, drop}
use Rattle.cedar_layers.specs.Policies.{policy_view, policy_id_text}
use Rattle.cedar_template_links.specs.Linking.{find_template}
use Rattle.cedar_template_links.proofs.templates.find_template.Given as goal

abbrev pub invariant-templates : goal.invariant-templates
invariant-templates l =
    find_template (policy_id_text l.fn.id) (map policy_view (drop l.template-index l.templates))
    ≡ find_template (policy_id_text l.fn.id) (map policy_view l.templates)
