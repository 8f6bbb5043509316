use Rattle.std.proofs.Common.{◌≡◌, map, drop}
use Rattle.cedar_layers.specs.Policies.{policy_id_text}
use Rattle.cedar_template_links.specs.Links.{link_view}
use Rattle.cedar_policy_json_text.specs.Placed.{has_link}
use Rattle.cedar_policy_json_text.proofs.linked.has_link.Given as goal

abbrev pub invariant-links : goal.invariant-links
invariant-links l =
    has_link (policy_id_text l.fn.id) (map link_view (drop l.link-index l.links))
    ≡ has_link (policy_id_text l.fn.id) (map link_view l.links)
