-- A connective comes to what its sides come to, and its parts are theirs.
use Rattle.std.proofs.Common.{◌≡◌, ◌∙◌, List, Bool, Some, Result, Ok, Err, IfOk, ap, sym, subst, subst₂, refl}
use Rattle.cedar_model.specs.Terms.{bool_literal, Term, literal, if_then_else, unary}
use Rattle.cedar_names.specs.declared.operators.UnaryOp.{UnaryOp}
use Rattle.cedar_names.specs.Leaves.{unary_view}
use Rattle.cedar_expressions.specs.declared.expr.Expr.{Expr}
use Rattle.cedar_expressions.specs.View.{view, kind_view}
use Rattle.cedar_expressions.proofs.Levels as levels
use Rattle.cedar_explain.specs.declared.outcomes.PartOutcome.{PartOutcome}
use Rattle.cedar_explain.specs.Outcomes.{Came, came_true, came_false, came_other, came_bool}
use Rattle.cedar_explain.specs.Explained.{Told, Walked}
use Rattle.cedar_explain.specs.declared.outcomes.PartOutcome.TheVariants as errors
use Rattle.cedar_explain.specs.Views.{part_came, parts_told}
use Rattle.cedar_explain.proofs.Walks.{truth_walked, and_true, and_alone, or_false, or_alone, not_walked, if_true, if_false, if_alone}
use Rattle.cedar_explain.proofs.walking.+walk.Goals as goal

-- the same walk, through an equal expression, to an equal outcome
seen : (Is : Told → Type 0) (x y : Expr) (before after : List Told) (c d : Came) → x ≡ y → c ≡ d →
    Walked Is (view x) before after c → Walked Is (view y) before after d
seen Is x y before after c d same so w = subst₂ (λ (e : Expr) (o : Came). Walked Is (view e) before after o) same so w

truth_seen : (Is : Told → Type 0) (t : Term) (b : Bool) (before : List Told) (o : Came) → t ≡ literal (bool_literal b) →
    o ≡ came_bool (Some b) → Walked Is t before before o
truth_seen Is t b before o is so =
    subst (λ (e : Came). Walked Is t before before e) (sym so) (truth_walked Is t b before is)

then_seen : {E : Type 0} (Is : Told → Type 0) (t c a b : Term) (before middle after : List Told) (r : Result PartOutcome E) →
    t ≡ if_then_else c a b → Walked Is c before middle came_true →
    IfOk r (λ o. Walked Is a middle after (part_came o)) → IfOk r (λ o. Walked Is t before after (part_came o))
then_seen Is t c a b before middle after (Ok o) is v w = if_true Is t c a b (part_came o) before middle after is v w
then_seen Is t c a b before middle after (Err e) is v w = w

else_seen : {E : Type 0} (Is : Told → Type 0) (t c a b : Term) (before middle after : List Told) (r : Result PartOutcome E) →
    t ≡ if_then_else c a b → Walked Is c before middle came_false →
    IfOk r (λ o. Walked Is b middle after (part_came o)) → IfOk r (λ o. Walked Is t before after (part_came o))
else_seen Is t c a b before middle after (Ok o) is v w = if_false Is t c a b (part_came o) before middle after is v w
else_seen Is t c a b before middle after (Err e) is v w = w

pub returns-in-Some : goal.returns-in-Some
returns-in-Some g t c =
    truth_seen _ (view c.args.expr.now) c.in-Some.truth (parts_told c.args.parts.now.items) (part_came c.of_truth.result)
    (sym c.expr_kind.ensures.view ∙ ap kind_view c.in-Lit.is ∙ levels.kind_view-Lit _ ∙ ap literal c.in-Some.ensures.is)
    c.of_truth.ensures

pub returns-in-True : goal.returns-in-True
returns-in-True g t c =
    then_seen _ (view c.args.expr.now) (view c.in-If.test_expr.value) (view c.deref-in-True.result.now) (view c.in-If.else_expr.value)
    (parts_told c.args.parts.now.items) (parts_told c.walk.new.parts.items) (parts_told c.walk-in-True.new.parts.items) c.walk-in-True.result
    (sym c.expr_kind.ensures.view ∙ ap kind_view c.in-If.is ∙ levels.kind_view-If _ _ _
    ∙ ap (λ (x : Expr). if_then_else (view c.in-If.test_expr.value) (view x) (view c.in-If.else_expr.value)) (sym c.deref-in-True.ensures))
    (seen _ c.deref.result.now c.in-If.test_expr.value _ _ _ _ c.deref.ensures (ap part_came c.in-True.is) c.in_ok-walk-in-If.ensures) c.walk-in-True.ensures

pub returns-in-False : goal.returns-in-False
returns-in-False g t c =
    else_seen _ (view c.args.expr.now) (view c.in-If.test_expr.value) (view c.in-If.then_expr.value) (view c.deref-in-False.result.now)
    (parts_told c.args.parts.now.items) (parts_told c.walk.new.parts.items) (parts_told c.walk-in-False.new.parts.items) c.walk-in-False.result
    (sym c.expr_kind.ensures.view ∙ ap kind_view c.in-If.is ∙ levels.kind_view-If _ _ _
    ∙ ap (λ (x : Expr). if_then_else (view c.in-If.test_expr.value) (view c.in-If.then_expr.value) (view x)) (sym c.deref-in-False.ensures))
    (seen _ c.deref.result.now c.in-If.test_expr.value _ _ _ _ c.deref.ensures (ap part_came c.in-False.is) c.in_ok-walk-in-If.ensures) c.walk-in-False.ensures

pub returns-in-OtherValue : goal.returns-in-OtherValue
returns-in-OtherValue g t c =
    if_alone _ (view c.args.expr.now) (view c.in-If.test_expr.value) (view c.in-If.then_expr.value) (view c.in-If.else_expr.value) came_other _
    (parts_told c.args.parts.now.items) (parts_told c.walk.new.parts.items)
    (sym c.expr_kind.ensures.view ∙ ap kind_view c.in-If.is ∙ levels.kind_view-If _ _ _) (λ x y. refl)
    (seen _ c.deref.result.now c.in-If.test_expr.value _ _ _ _ c.deref.ensures (ap part_came c.in-OtherValue.is) c.in_ok-walk-in-If.ensures)

pub returns-in-Error : goal.returns-in-Error
returns-in-Error g t c =
    if_alone _ (view c.args.expr.now) (view c.in-If.test_expr.value) (view c.in-If.then_expr.value) (view c.in-If.else_expr.value) (part_came (errors.Error c.in-Error.kind)) _
    (parts_told c.args.parts.now.items) (parts_told c.walk.new.parts.items)
    (sym c.expr_kind.ensures.view ∙ ap kind_view c.in-If.is ∙ levels.kind_view-If _ _ _) (λ x y. refl)
    (seen _ c.deref.result.now c.in-If.test_expr.value _ _ _ _ c.deref.ensures (ap part_came c.in-Error.is) c.in_ok-walk-in-If.ensures)

pub returns-in_ok-walk-in-True-2 : goal.returns-in_ok-walk-in-True-2
returns-in_ok-walk-in-True-2 g t c =
    and_true _ (view c.args.expr.now) (view c.in-And.left.value) (view c.in-And.right.value) (part_came c.in_ok-walk-in-True-2.field-0)
    (part_came c.as_side.result) (parts_told c.args.parts.now.items) (parts_told c.walk-in-And.new.parts.items)
    (parts_told c.walk-in-True-2.new.parts.items)
    (sym c.expr_kind.ensures.view ∙ ap kind_view c.in-And.is ∙ levels.kind_view-And _ _) c.as_side.ensures
    (seen _ c.deref-in-And.result.now c.in-And.left.value _ _ _ _ c.deref-in-And.ensures (ap part_came c.in-True-2.is) c.in_ok-walk-in-And.ensures)
    (seen _ c.deref-in-True-2.result.now c.in-And.right.value _ _ _ _ c.deref-in-True-2.ensures refl c.in_ok-walk-in-True-2.ensures)

pub returns-in-False-2 : goal.returns-in-False-2
returns-in-False-2 g t c =
    and_alone _ (view c.args.expr.now) (view c.in-And.left.value) (view c.in-And.right.value) came_false _
    (parts_told c.args.parts.now.items) (parts_told c.walk-in-And.new.parts.items)
    (sym c.expr_kind.ensures.view ∙ ap kind_view c.in-And.is ∙ levels.kind_view-And _ _) (λ x. refl)
    (seen _ c.deref-in-And.result.now c.in-And.left.value _ _ _ _ c.deref-in-And.ensures (ap part_came c.in-False-2.is) c.in_ok-walk-in-And.ensures)

pub returns-in-OtherValue-2 : goal.returns-in-OtherValue-2
returns-in-OtherValue-2 g t c =
    and_alone _ (view c.args.expr.now) (view c.in-And.left.value) (view c.in-And.right.value) came_other _
    (parts_told c.args.parts.now.items) (parts_told c.walk-in-And.new.parts.items)
    (sym c.expr_kind.ensures.view ∙ ap kind_view c.in-And.is ∙ levels.kind_view-And _ _) (λ x. refl)
    (seen _ c.deref-in-And.result.now c.in-And.left.value _ _ _ _ c.deref-in-And.ensures (ap part_came c.in-OtherValue-2.is) c.in_ok-walk-in-And.ensures)

pub returns-in-Error-2 : goal.returns-in-Error-2
returns-in-Error-2 g t c =
    and_alone _ (view c.args.expr.now) (view c.in-And.left.value) (view c.in-And.right.value) (part_came (errors.Error c.in-Error-2.kind)) _
    (parts_told c.args.parts.now.items) (parts_told c.walk-in-And.new.parts.items)
    (sym c.expr_kind.ensures.view ∙ ap kind_view c.in-And.is ∙ levels.kind_view-And _ _) (λ x. refl)
    (seen _ c.deref-in-And.result.now c.in-And.left.value _ _ _ _ c.deref-in-And.ensures (ap part_came c.in-Error-2.is) c.in_ok-walk-in-And.ensures)

pub returns-in_ok-walk-in-False-3 : goal.returns-in_ok-walk-in-False-3
returns-in_ok-walk-in-False-3 g t c =
    or_false _ (view c.args.expr.now) (view c.in-Or.left.value) (view c.in-Or.right.value) (part_came c.in_ok-walk-in-False-3.field-0)
    (part_came c.as_side-in-False-3.result) (parts_told c.args.parts.now.items) (parts_told c.walk-in-Or.new.parts.items)
    (parts_told c.walk-in-False-3.new.parts.items)
    (sym c.expr_kind.ensures.view ∙ ap kind_view c.in-Or.is ∙ levels.kind_view-Or _ _) c.as_side-in-False-3.ensures
    (seen _ c.deref-in-Or.result.now c.in-Or.left.value _ _ _ _ c.deref-in-Or.ensures (ap part_came c.in-False-3.is) c.in_ok-walk-in-Or.ensures)
    (seen _ c.deref-in-False-3.result.now c.in-Or.right.value _ _ _ _ c.deref-in-False-3.ensures refl c.in_ok-walk-in-False-3.ensures)

pub returns-in-True-3 : goal.returns-in-True-3
returns-in-True-3 g t c =
    or_alone _ (view c.args.expr.now) (view c.in-Or.left.value) (view c.in-Or.right.value) came_true _
    (parts_told c.args.parts.now.items) (parts_told c.walk-in-Or.new.parts.items)
    (sym c.expr_kind.ensures.view ∙ ap kind_view c.in-Or.is ∙ levels.kind_view-Or _ _) (λ x. refl)
    (seen _ c.deref-in-Or.result.now c.in-Or.left.value _ _ _ _ c.deref-in-Or.ensures (ap part_came c.in-True-3.is) c.in_ok-walk-in-Or.ensures)

pub returns-in-OtherValue-3 : goal.returns-in-OtherValue-3
returns-in-OtherValue-3 g t c =
    or_alone _ (view c.args.expr.now) (view c.in-Or.left.value) (view c.in-Or.right.value) came_other _
    (parts_told c.args.parts.now.items) (parts_told c.walk-in-Or.new.parts.items)
    (sym c.expr_kind.ensures.view ∙ ap kind_view c.in-Or.is ∙ levels.kind_view-Or _ _) (λ x. refl)
    (seen _ c.deref-in-Or.result.now c.in-Or.left.value _ _ _ _ c.deref-in-Or.ensures (ap part_came c.in-OtherValue-3.is) c.in_ok-walk-in-Or.ensures)

pub returns-in-Error-3 : goal.returns-in-Error-3
returns-in-Error-3 g t c =
    or_alone _ (view c.args.expr.now) (view c.in-Or.left.value) (view c.in-Or.right.value) (part_came (errors.Error c.in-Error-3.kind)) _
    (parts_told c.args.parts.now.items) (parts_told c.walk-in-Or.new.parts.items)
    (sym c.expr_kind.ensures.view ∙ ap kind_view c.in-Or.is ∙ levels.kind_view-Or _ _) (λ x. refl)
    (seen _ c.deref-in-Or.result.now c.in-Or.left.value _ _ _ _ c.deref-in-Or.ensures (ap part_came c.in-Error-3.is) c.in_ok-walk-in-Or.ensures)

pub returns-in_ok-walk-in-Not : goal.returns-in_ok-walk-in-Not
returns-in_ok-walk-in-Not g t c =
    not_walked _ (view c.args.expr.now) (view c.in-UnaryApp.arg.value) (part_came c.in_ok-walk-in-Not.field-0) (part_came c.negated.result)
    (parts_told c.args.parts.now.items) (parts_told c.walk-in-Not.new.parts.items)
    (sym c.expr_kind.ensures.view ∙ ap kind_view c.in-UnaryApp.is ∙ levels.kind_view-UnaryApp _ _
    ∙ ap (λ (o : UnaryOp). unary (unary_view o) (view c.in-UnaryApp.arg.value)) c.in-Not.is)
    c.negated.ensures
    (seen _ c.deref-in-Not.result.now c.in-UnaryApp.arg.value _ _ _ _ c.deref-in-Not.ensures refl c.in_ok-walk-in-Not.ensures)
