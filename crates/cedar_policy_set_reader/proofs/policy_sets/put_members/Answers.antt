use Rattle.std.proofs.Common.{◌≡◌, ℕ, ◌+◌, ◌∷◌, List, drop, map, sym, ap, ◌∙◌, arith, Global}
use Rattle.std.proofs.lemmas.List.{drop_more}
use Rattle.std.specs.Borrow.{Bor}
use Rattle.json.specs.Value.{value_view, members_view}
use Rattle.json.specs.declared.value.Value.{Value}
use Rattle.cedar_functions.specs.Functions.{knowledge}
use Rattle.cedar_layers.specs.Policies.{PolicyView, policy_view}
use Rattle.cedar_policy_json_reader.specs.Expressions.{expression_said}
use Rattle.cedar_policy_json_reader.specs.Paths.{at_key}
use Rattle.cedar_policy_json_reader.specs.Refusals.{under}
use Rattle.cedar_policy_set_reader.specs.PolicySets.{member_said, members_from}
use Rattle.cedar_template_links.proofs.Making.{then_on}
use Rattle.cedar_policy_set_reader.proofs.policy_sets.put_members.Goals as goal

pub members-preserved : goal.members-preserved
members-preserved c =
    let l = c.members in
    let xs = c.deref-member-items.result.now in
    let x = c.member-item.result in
    let here : drop l.member-index xs ≡ x ∷ drop (l.member-index + 1) xs = drop_more xs l.member-index x (omega arith) ∙ ap (λ y. y ∷ drop (l.member-index + 1) xs) (sym c.member-item.is) in
    let says = expression_said (knowledge c.args.functions.now) c.args.limit in
    let others = map policy_view c.args.others.now.items in
    let done = map policy_view l.policies.items in
    l.invariant ∙ ap (λ (ys : List (Bor (List ℕ) × Value Global)). members_from c.args.is_open says others done (members_view ys)) here
    ∙ then_on (λ (ps : List PolicyView). members_from c.args.is_open says others ps (members_view (drop (l.member-index + 1) xs))) done _
    (under (at_key x.0.now) (member_said c.args.is_open says done others x.0.now (value_view x.1))) c.in_ok-put_member.ensures.said
