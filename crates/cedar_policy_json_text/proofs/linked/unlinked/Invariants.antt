use Rattle.std.proofs.Common.{◌≡◌, ◌++◌, map, drop}
use Rattle.cedar_layers.specs.Policies.{policy_view}
use Rattle.cedar_template_links.specs.Links.{link_view}
use Rattle.cedar_policy_json_text.specs.Placed.{unlinked}
use Rattle.cedar_policy_json_text.proofs.linked.unlinked.Given as goal

-- those that are kept, and those of the rest
abbrev pub invariant-templates : goal.invariant-templates
invariant-templates l =
    map policy_view l.left.items ++ unlinked (map link_view l.fn.links) (map policy_view (drop l.template-index l.fn.templates))
    ≡ unlinked (map link_view l.fn.links) (map policy_view l.fn.templates)
