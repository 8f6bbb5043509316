-- Places in a condition, the parts that stand there, and what the condition comes to where each part comes to this.
use Rattle.std.specs.Prelude.{Bool, true, false, List, [], ◌∷◌, Option, Some, None, cond, not}
use Rattle.cedar_model.specs.Terms.{Literal, bool_literal, long_literal, text_literal, entity_literal, UnaryOperator}
use Rattle.cedar_model.specs.Terms.{not_operator, neg_operator, is_empty_operator, Term, literal, variable}
use Rattle.cedar_model.specs.Terms.{slot, unknown, if_then_else, both, either, unary, binary, call, get_attribute}
use Rattle.cedar_model.specs.Terms.{has_attribute, extended_has, like, is_of_type, set_of, record_of}
use Rattle.cedar_explain.specs.Outcomes.{Came, came_true, came_false, came_bool, as_side, negated, chosen}

-- into which side of a connective: the first, the second, or the third, which `if` alone has
pub data Side : Type 0 where
  first_side : Side
  second_side : Side
  third_side : Side

-- a place: the sides, from the condition inwards
abbrev pub Place : Type 0
Place = List Side

abbrev pub is_not : UnaryOperator → Bool
is_not not_operator = true
is_not neg_operator = false
is_not is_empty_operator = false

abbrev pub is_truth : Literal → Bool
is_truth (bool_literal b) = true
is_truth (long_literal n) = false
is_truth (text_literal t) = false
is_truth (entity_literal e) = false

-- whether the expression can be named as a part: not `&&`, `||`, `!` and `if`, which are looked into, nor `true` and
-- `false`, which are so in every world
abbrev pub is_part : Term → Bool
is_part (literal l) = not (is_truth l)
is_part (variable v) = true
is_part (slot s) = true
is_part (unknown n t) = true
is_part (if_then_else c a b) = false
is_part (both a b) = false
is_part (either a b) = false
is_part (unary op a) = not (is_not op)
is_part (binary op a b) = true
is_part (call f ts) = true
is_part (get_attribute a k) = true
is_part (has_attribute a k) = true
is_part (extended_has a k ks) = true
is_part (like a p) = true
is_part (is_of_type a t) = true
is_part (set_of ts) = true
is_part (record_of fs) = true

-- the part at a place of a condition: what stands there, inside connectives alone
abbrev pub part_at : Place → Term → Option Term
part_at [] t = cond (is_part t) (Some t) None
part_at (first_side ∷ p) (both a b) = part_at p a
part_at (second_side ∷ p) (both a b) = part_at p b
part_at (first_side ∷ p) (either a b) = part_at p a
part_at (second_side ∷ p) (either a b) = part_at p b
part_at (first_side ∷ p) (unary not_operator a) = part_at p a
part_at (first_side ∷ p) (if_then_else c a b) = part_at p c
part_at (second_side ∷ p) (if_then_else c a b) = part_at p a
part_at (third_side ∷ p) (if_then_else c a b) = part_at p b
part_at (s ∷ p) t = None

-- what each place comes to
abbrev pub Assignment : Type 0
Assignment = Place → Came

-- what the places on one side come to
abbrev pub on_side : Side → Assignment → Assignment
on_side s at p = at (s ∷ p)

-- what a condition comes to, where each part comes to what its place does
abbrev pub comes_to : Assignment → Term → Came
comes_to at (both a b) =
    chosen (comes_to (on_side first_side at) a) (as_side (comes_to (on_side second_side at) b)) came_false
comes_to at (either a b) =
    chosen (comes_to (on_side first_side at) a) came_true (as_side (comes_to (on_side second_side at) b))
comes_to at (unary not_operator a) = negated (comes_to (on_side first_side at) a)
comes_to at (if_then_else c a b) =
    chosen (comes_to (on_side first_side at) c) (comes_to (on_side second_side at) a) (comes_to (on_side third_side at) b)
comes_to at (literal (bool_literal b)) = came_bool (Some b)
comes_to at t = at []
