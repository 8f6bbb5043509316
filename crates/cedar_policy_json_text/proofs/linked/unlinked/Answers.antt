use Rattle.std.proofs.Common.{◌≡◌, ◌+◌, ◌∷◌, ◌++◌, List, drop, map, sym, ap, ◌∙◌, arith}
use Rattle.std.proofs.lemmas.List.{drop_more, drop_all}
use Rattle.cedar_layers.specs.declared.policies.policy.Policy.{Policy}
use Rattle.cedar_layers.specs.Policies.{policy_view}
use Rattle.cedar_template_links.specs.Links.{link_view}
use Rattle.cedar_policy_json_text.specs.Placed.{unlinked}
use Rattle.cedar_policy_json_text.proofs.Unlinked.{looked_at, all_looked_at}
use Rattle.cedar_policy_json_text.proofs.linked.unlinked.Goals as goal

pub templates-preserved : goal.templates-preserved
templates-preserved c =
    let l = c.templates in
    let xs = c.args.templates.now in
    let x = c.template-item.result in
    let here : drop l.template-index xs ≡ x ∷ drop (l.template-index + 1) xs = drop_more xs l.template-index x (omega arith) ∙ ap (λ y. y ∷ drop (l.template-index + 1) xs) (sym c.template-item.is) in
    let links = map link_view c.args.links.now in
    let done = map policy_view l.left.items in
    looked_at links _ done _ (policy_view x) (map policy_view (drop (l.template-index + 1) xs))
    (sym (ap (λ (ys : List Policy). done ++ unlinked links (map policy_view ys)) here) ∙ l.invariant) c.in_ok-put_unlinked.ensures

pub returns : goal.returns
returns c =
    let none = drop_all c.templates.template-index c.args.templates.now c.templates-test.false in
    all_looked_at _ _ _ _ (ap (map policy_view) none) c.templates.invariant
