use Rattle.std.proofs.Common.{◌≡◌, ◌+◌, ◌∷◌, ◌++◌, List, drop, map, flat_map, sym, ap, ◌∙◌, arith}
use Rattle.std.specs.Borrow.{Bor}
use Rattle.std.proofs.lemmas.List.{drop_more, drop_all}
use Rattle.cedar_layers.specs.Policies.{policy_view, policy_ids}
use Rattle.cedar_layers.specs.declared.policies.policy.Policy.{Policy}
use Rattle.cedar_policy_json_text.specs.Kept.{lent}
use Rattle.cedar_policy_json_text.specs.Names.{id_and_name}
use Rattle.cedar_policy_json_text.proofs.Keeping.{no_more}
use Rattle.cedar_policy_json_text.proofs.Sharing.{names_more}
use Rattle.cedar_policy_json_text.proofs.names.put_names.Goals as goal

pub policies-preserved : goal.policies-preserved
policies-preserved c =
    let l = c.policies in
    let xs = c.args.policies.now in
    let x = c.policy-item.result in
    let here : drop l.policy-index xs ≡ x ∷ drop (l.policy-index + 1) xs = drop_more xs l.policy-index x (omega arith) ∙ ap (λ y. y ∷ drop (l.policy-index + 1) xs) (sym c.policy-item.is) in
    let done = policy_ids (map policy_view l.all.items) in
    names_more _ done _ (policy_view x.now) (lent (drop (l.policy-index + 1) xs))
    (sym (ap (λ (ps : List (Bor Policy)). done ++ flat_map id_and_name (lent ps)) here) ∙ l.invariant) c.in_ok-put_id_and_name.ensures

pub returns : goal.returns
returns c =
    let none = drop_all c.policies.policy-index c.args.policies.now c.policies-test.false in
    no_more _ _ _ (ap (λ (ps : List (Bor Policy)). flat_map id_and_name (lent ps)) none) c.policies.invariant
