use Rattle.std.proofs.Common.{◌≡◌, ℕ, ◌+◌, [], ◌∷◌, ◌++◌, List, drop, map, sym, ap, ◌∙◌, arith, append_assoc, Global}
use Rattle.std.specs.Borrow.{Bor}
use Rattle.std.specs.Rc.{rc_str_bytes}
use Rattle.std.proofs.lemmas.List.{drop_more}
use Rattle.json.specs.Strict.{keys}
use Rattle.json.specs.Value.{members_view}
use Rattle.json.specs.declared.value.Value.{Value}
use Rattle.cedar_model.specs.Terms.{Text}
use Rattle.cedar_sql_columns.proofs.tables.put_keys.Goals as goal

pub members-preserved : goal.members-preserved
members-preserved c =
    let l = c.members in
    let xs = c.deref-member-items.result.now in
    let x = c.member-item.result in
    let here : drop l.member-index xs ≡ x ∷ drop (l.member-index + 1) xs = drop_more xs l.member-index x (omega arith) ∙ ap (λ y. y ∷ drop (l.member-index + 1) xs) (sym c.member-item.is) in
    let done = map rc_str_bytes l.names.items in
    let rest = keys (members_view (drop (l.member-index + 1) xs)) in
    ap (λ (ks : List Text). ks ++ rest) c.in_ok-put_name.ensures.said
    ∙ append_assoc done (x.0.now ∷ []) rest
    ∙ sym (ap (λ (ys : List (Bor (List ℕ) × Value Global)). done ++ keys (members_view ys)) here)
    ∙ l.invariant
