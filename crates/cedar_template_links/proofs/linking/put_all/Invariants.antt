use Rattle.std.proofs.Common.{◌≡◌, [], drop, map}
use Rattle.cedar_layers.specs.Policies.{policy_view}
use Rattle.cedar_template_links.specs.Links.{link_view}
use Rattle.cedar_template_links.specs.Linking.{made_from}
use Rattle.cedar_template_links.proofs.linking.put_all.Given as goal

-- what all links make is what the rest makes behind the policies that are made
abbrev pub invariant-links : goal.invariant-links
invariant-links l =
    made_from l.form (map policy_view l.fn.policies) (map policy_view l.fn.templates) [] (map link_view l.fn.links)
    ≡ made_from l.form (map policy_view l.fn.policies) (map policy_view l.fn.templates) (map policy_view l.made.items)
    (map link_view (drop l.link-index l.fn.links))
