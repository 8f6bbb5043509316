use Rattle.std.proofs.Common.{◌≡◌, ℕ, ◌+◌, ◌*◌, max, true, List, ◌++◌, drop}
use Rattle.std.specs.Fmt.{HasWritten, IsPlainFormatter}
use Rattle.cedar_expressions.specs.declared.expr.Expr.{size-Expr}
use Rattle.cedar_expressions.specs.View.{terms_view, fields_view}
use Rattle.cedar_names.specs.Texts.{shown_parts, shown_fields}
use Rattle.cedar_expressions.proofs.texts.expressions.+show.Given as goal

-- what is written so far and what is left are the whole text
abbrev pub invariant-show_parts-parts : goal.invariant-show_parts-parts
invariant-show_parts-parts g l =
    IsPlainFormatter l.initial.f
    → (done : List ℕ) × HasWritten g.W.Write.write_str_gives l.initial.f done l.f
    × (done ++ shown_parts l.bound l.left l.is_first (terms_view (drop l.part-index l.parts)) ≡ shown_parts l.bound l.fn.left true (terms_view l.parts))

abbrev pub invariant-show_fields-fields : goal.invariant-show_fields-fields
invariant-show_fields-fields g l =
    IsPlainFormatter l.initial.f
    → (done : List ℕ) × HasWritten g.W.Write.write_str_gives l.initial.f done l.f
    × (done ++ shown_fields l.bound l.left l.is_first (fields_view l.key-iterator) ≡ shown_fields l.bound l.bound true (fields_view l.pairs.entries))

-- an expression is larger than its parts, and what writes several parts stands above what writes one
abbrev pub decreases-show : goal.decreases-show
decreases-show g l = 5 * size-Expr l.expr.now

abbrev pub decreases-show_enclosed : goal.decreases-show_enclosed
decreases-show_enclosed g l = 5 * size-Expr l.part.now + 1

abbrev pub decreases-show_part : goal.decreases-show_part
decreases-show_part g l = 5 * size-Expr l.part.now + 2

abbrev pub decreases-show_next : goal.decreases-show_next
decreases-show_next g l = 5 * size-Expr l.part.now + 1

abbrev pub decreases-show_next_field : goal.decreases-show_next_field
decreases-show_next_field g l = 5 * size-Expr l.part.now + 1

abbrev pub decreases-show_parts : goal.decreases-show_parts
decreases-show_parts g l = 5 * goal.size-show_parts g l + 2

abbrev pub decreases-show_fields : goal.decreases-show_fields
decreases-show_fields g l = 5 * goal.size-show_fields g l + 2

abbrev pub decreases-show_set : goal.decreases-show_set
decreases-show_set g l = 5 * goal.size-show_set g l + 3

abbrev pub decreases-show_record : goal.decreases-show_record
decreases-show_record g l = 5 * goal.size-show_record g l + 3

abbrev pub decreases-show_call : goal.decreases-show_call
decreases-show_call g l = 5 * goal.size-show_call g l + 3

abbrev pub decreases-show_if : goal.decreases-show_if
decreases-show_if g l = 5 * max (size-Expr l.test_expr.now) (max (size-Expr l.then_expr.now) (size-Expr l.else_expr.now)) + 3

abbrev pub decreases-show_pair : goal.decreases-show_pair
decreases-show_pair g l = 5 * max (size-Expr l.left.now) (size-Expr l.right.now) + 3

abbrev pub decreases-show_method : goal.decreases-show_method
decreases-show_method g l = 5 * max (size-Expr l.left.now) (size-Expr l.right.now) + 3

abbrev pub decreases-show_binary : goal.decreases-show_binary
decreases-show_binary g l = 5 * max (size-Expr l.left.now) (size-Expr l.right.now) + 4

abbrev pub decreases-show_unary : goal.decreases-show_unary
decreases-show_unary g l = 5 * size-Expr l.arg.now + 3

abbrev pub decreases-show_attribute : goal.decreases-show_attribute
decreases-show_attribute g l = 5 * size-Expr l.expr.now + 3

abbrev pub decreases-show_has : goal.decreases-show_has
decreases-show_has g l = 5 * size-Expr l.expr.now + 3

abbrev pub decreases-show_extended_has : goal.decreases-show_extended_has
decreases-show_extended_has g l = 5 * size-Expr l.expr.now + 3

abbrev pub decreases-show_like : goal.decreases-show_like
decreases-show_like g l = 5 * size-Expr l.expr.now + 3

abbrev pub decreases-show_is : goal.decreases-show_is
decreases-show_is g l = 5 * size-Expr l.expr.now + 3
