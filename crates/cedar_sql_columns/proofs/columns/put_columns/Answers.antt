use Rattle.std.proofs.Common.{◌≡◌, ℕ, ◌+◌, [], ◌∷◌, List, drop, map, sym, ap, ◌∙◌, arith, Global}
use Rattle.std.specs.Borrow.{Bor}
use Rattle.std.proofs.lemmas.List.{drop_more}
use Rattle.json.specs.Json.{Members}
use Rattle.json.specs.Value.{value_view, members_view}
use Rattle.json.specs.declared.value.Value.{Value}
use Rattle.cedar_sql_columns.specs.Refusals.{and_then}
use Rattle.cedar_sql_columns.specs.Said.{SaidColumn, columns_after, columns_said}
use Rattle.cedar_sql_columns.specs.Tables.{column_view}
use Rattle.cedar_sql_columns.proofs.columns.put_columns.Goals as goal

none_before : (done : List SaidColumn) (n : ℕ) (ms : Members) → done ≡ [] → columns_said n ms ≡ columns_after done n ms
none_before done n ms h = ap (λ (cs : List SaidColumn). columns_after cs n ms) (sym h)

pub members-init : goal.members-init
members-init c = (omega arith, none_before (map column_view c.args.columns.now.items) c.args.first (members_view c.deref-member-items.result.now) (ap (map column_view) c.requires.none))

pub members-preserved : goal.members-preserved
members-preserved c =
    let l = c.members in
    let xs = c.deref-member-items.result.now in
    let x = c.member-item.result in
    let here : drop l.member-index xs ≡ x ∷ drop (l.member-index + 1) xs = drop_more xs l.member-index x (omega arith) ∙ ap (λ y. y ∷ drop (l.member-index + 1) xs) (sym c.member-item.is) in
    let rest = members_view (drop (l.member-index + 1) xs) in
    let more : l.place + 1 ≡ c.args.first + (l.member-index + 1) = omega (arith, l.invariant.0) in (
      more,
      l.invariant.1 ∙ ap (λ (ys : List (Bor (List ℕ) × Value Global)). columns_after (map column_view l.columns.items) l.place (members_view ys)) here
          ∙ ap (and_then (λ cs. columns_after cs (l.place + 1) rest)) c.in_ok-put_column.ensures.said,
    )
