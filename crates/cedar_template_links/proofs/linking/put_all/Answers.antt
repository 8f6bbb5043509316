use Rattle.std.proofs.Common.{◌≡◌, ◌+◌, ◌∷◌, List, drop, map, length, sym, ap, ◌∙◌, arith}
use Rattle.std.proofs.lemmas.List.{drop_more}
use Rattle.cedar_layers.specs.Policies.{PolicyView, policy_view}
use Rattle.cedar_policy_json_reader.specs.Paths.{at_index}
use Rattle.cedar_policy_json_reader.specs.Refusals.{under}
use Rattle.cedar_template_links.specs.Links.{link_view}
use Rattle.cedar_template_links.specs.Linking.{link_made, made_from}
use Rattle.cedar_template_links.specs.declared.links.Link.{Link}
use Rattle.cedar_template_links.proofs.Making.{then_on}
use Rattle.cedar_template_links.proofs.linking.put_all.Goals as goal

pub links-preserved : goal.links-preserved
links-preserved c =
    let l = c.links in
    let xs = c.args.links.now in
    let x = c.link-item.result in
    let here : drop l.link-index xs ≡ x ∷ drop (l.link-index + 1) xs = drop_more xs l.link-index x (omega arith) ∙ ap (λ y. y ∷ drop (l.link-index + 1) xs) (sym c.link-item.is) in
    let ps = map policy_view c.args.policies.now in
    let ts = map policy_view c.args.templates.now in
    let done = map policy_view l.made.items in
    l.invariant ∙ ap (λ (ys : List Link). made_from c.args.form ps ts done (map link_view ys)) here
    ∙ then_on (λ (qs : List PolicyView). made_from c.args.form ps ts qs (map link_view (drop (l.link-index + 1) xs))) done _
    (under (at_index (length done)) (link_made c.args.form ps ts done (link_view x))) c.in_ok-put_linked.ensures.made
