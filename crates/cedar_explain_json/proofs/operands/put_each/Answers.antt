-- One after another.
use Rattle.std.proofs.Common.{◌≡◌, ◌+◌, ◌∷◌, ◌++◌, List, drop, sym, ap, ◌∙◌, arith, append_assoc}
use Rattle.std.proofs.lemmas.List.{drop_more}
use Rattle.cedar_model.specs.Terms.{Term}
use Rattle.cedar_expressions.specs.declared.expr.Expr.{Expr}
use Rattle.cedar_expressions.specs.View.{view, terms_view}
use Rattle.cedar_explain_json.specs.Operands.{unless_literal, none_literal, terms_seen}
use Rattle.cedar_explain_json.proofs.operands.put_each.Goals as goal

pub parts-preserved : goal.parts-preserved
parts-preserved c =
    let l = c.parts in
    let xs = c.deref-part-items.result.now in
    let x = c.part-item.result in
    let here : drop l.part-index xs ≡ x ∷ drop (l.part-index + 1) xs =
    drop_more xs l.part-index x (omega arith) ∙ ap (λ y. y ∷ drop (l.part-index + 1) xs) (sym c.part-item.is) in
    let done = terms_seen l.found.items in
    let rest = none_literal (terms_view (drop (l.part-index + 1) xs)) in
    ap (λ (ts : List Term). ts ++ rest) c.in_ok-put_operand.ensures
    ∙ append_assoc done (unless_literal (view x)) rest
    ∙ sym (ap (λ (es : List Expr). done ++ none_literal (terms_view es)) here)
    ∙ l.invariant
