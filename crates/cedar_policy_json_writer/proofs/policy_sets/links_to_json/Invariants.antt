use Rattle.std.proofs.Common.{◌≡◌, ◌++◌, map, drop}
use Rattle.cedar_json_writer.specs.Trees.{json_view}
use Rattle.cedar_policy_json_writer.specs.Links.{link_view}
use Rattle.cedar_policy_json_writer.specs.PolicySets.{link_json}
use Rattle.cedar_policy_json_writer.proofs.policy_sets.links_to_json.Given as goal

-- those that are written, and those that are left
abbrev pub invariant-links : goal.invariant-links
invariant-links l =
    map json_view l.items.items ++ map link_json (map link_view (drop l.link-index l.fn.links))
    ≡ map link_json (map link_view l.fn.links)
