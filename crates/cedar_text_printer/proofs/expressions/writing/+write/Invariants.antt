use Rattle.std.proofs.Common.{◌≡◌, ℕ, ◌+◌, ◌*◌, max, true, List, ◌++◌, drop}
use Rattle.std.specs.Fmt.{HasWritten, IsPlainFormatter}
use Rattle.cedar_expressions.specs.declared.expr.Expr.{size-Expr}
use Rattle.cedar_expressions.specs.View.{terms_view, fields_view}
use Rattle.cedar_layers.specs.Policies.{slots_view}
use Rattle.cedar_text_printer.specs.Texts.{written_parts, written_fields}
use Rattle.cedar_text_printer.proofs.expressions.writing.+write.Given as goal

-- what is written so far and what is left are the whole text
abbrev pub invariant-write_parts-parts : goal.invariant-write_parts-parts
invariant-write_parts-parts g l =
    IsPlainFormatter l.initial.f
    → (done : List ℕ) × HasWritten g.W.Write.write_str_gives l.initial.f done l.f
    × (done ++ written_parts (slots_view l.slots) l.is_first (terms_view (drop l.i l.parts)) ≡ written_parts (slots_view l.slots) true (terms_view (drop l.from l.parts)))

abbrev pub invariant-write_fields-fields : goal.invariant-write_fields-fields
invariant-write_fields-fields g l =
    IsPlainFormatter l.initial.f
    → (done : List ℕ) × HasWritten g.W.Write.write_str_gives l.initial.f done l.f
    × (done ++ written_fields (slots_view l.slots) l.is_first (fields_view l.key-iterator) ≡ written_fields (slots_view l.slots) true (fields_view l.pairs.entries))

-- an expression is larger than its parts, and what writes several parts stands above what writes one
abbrev pub decreases-write_expr : goal.decreases-write_expr
decreases-write_expr g l = 5 * size-Expr l.expr.now

abbrev pub decreases-write_bracketed : goal.decreases-write_bracketed
decreases-write_bracketed g l = 5 * size-Expr l.part.now + 1

abbrev pub decreases-write_part : goal.decreases-write_part
decreases-write_part g l = 5 * size-Expr l.part.now + 2

abbrev pub decreases-write_next : goal.decreases-write_next
decreases-write_next g l = 5 * size-Expr l.part.now + 1

abbrev pub decreases-write_next_field : goal.decreases-write_next_field
decreases-write_next_field g l = 5 * size-Expr l.part.now + 1

abbrev pub decreases-write_parts : goal.decreases-write_parts
decreases-write_parts g l = 5 * goal.size-write_parts g l + 2

abbrev pub decreases-write_fields : goal.decreases-write_fields
decreases-write_fields g l = 5 * goal.size-write_fields g l + 2

abbrev pub decreases-write_set : goal.decreases-write_set
decreases-write_set g l = 5 * goal.size-write_set g l + 3

abbrev pub decreases-write_record : goal.decreases-write_record
decreases-write_record g l = 5 * goal.size-write_record g l + 3

abbrev pub decreases-write_function : goal.decreases-write_function
decreases-write_function g l = 5 * goal.size-write_function g l + 3

abbrev pub decreases-write_method : goal.decreases-write_method
decreases-write_method g l = 5 * goal.size-write_method g l + 3

abbrev pub decreases-write_call : goal.decreases-write_call
decreases-write_call g l = 5 * goal.size-write_call g l + 4

abbrev pub decreases-write_if : goal.decreases-write_if
decreases-write_if g l = 5 * max (size-Expr l.test_expr.now) (max (size-Expr l.then_expr.now) (size-Expr l.else_expr.now)) + 3

abbrev pub decreases-write_pair : goal.decreases-write_pair
decreases-write_pair g l = 5 * max (size-Expr l.left.now) (size-Expr l.right.now) + 3

abbrev pub decreases-write_binary : goal.decreases-write_binary
decreases-write_binary g l = 5 * max (size-Expr l.left.now) (size-Expr l.right.now) + 4

abbrev pub decreases-write_unary : goal.decreases-write_unary
decreases-write_unary g l = 5 * size-Expr l.arg.now + 3

abbrev pub decreases-write_get : goal.decreases-write_get
decreases-write_get g l = 5 * size-Expr l.expr.now + 3

abbrev pub decreases-write_test : goal.decreases-write_test
decreases-write_test g l = 5 * size-Expr l.expr.now + 3

abbrev pub decreases-write_path_test : goal.decreases-write_path_test
decreases-write_path_test g l = 5 * size-Expr l.expr.now + 3

abbrev pub decreases-write_match : goal.decreases-write_match
decreases-write_match g l = 5 * size-Expr l.expr.now + 3

abbrev pub decreases-write_type_test : goal.decreases-write_type_test
decreases-write_type_test g l = 5 * size-Expr l.expr.now + 3
