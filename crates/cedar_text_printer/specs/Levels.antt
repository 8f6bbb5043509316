-- Levels of expressions: the lower a level, the closer what stands there holds together.
--   0 a number, 1 what needs no brackets anywhere, 2 signs and negative numbers, 3 products, 4 sums, 5 relations, 6 `&&`,
--   7 `||`, 8 `if`
use Rattle.std.specs.Prelude.{ℕ, ℤ, pos, negsuc, Bool, ◌&&◌, nat_le}
use Rattle.cedar_model.specs.Terms.{Literal, bool_literal, long_literal, text_literal, entity_literal, UnaryOperator, not_operator, neg_operator, is_empty_operator, BinaryOperator, eq_operator, less_operator, less_eq_operator, add_operator, sub_operator, mul_operator, in_operator, contains_operator, contains_all_operator, contains_any_operator, get_tag_operator, has_tag_operator, Term, literal, variable, slot, unknown, if_then_else, both, either, unary, binary, call, get_attribute, has_attribute, extended_has, like, is_of_type, set_of, record_of}

abbrev pub number_level : ℤ → ℕ
number_level (pos n) = 0
number_level (negsuc n) = 2

abbrev pub literal_level : Literal → ℕ
literal_level (bool_literal b) = 1
literal_level (long_literal z) = number_level z
literal_level (text_literal t) = 1
literal_level (entity_literal e) = 1

abbrev pub unary_level : UnaryOperator → ℕ
unary_level not_operator = 2
unary_level neg_operator = 2
unary_level is_empty_operator = 1

abbrev pub binary_level : BinaryOperator → ℕ
binary_level eq_operator = 5
binary_level less_operator = 5
binary_level less_eq_operator = 5
binary_level add_operator = 4
binary_level sub_operator = 4
binary_level mul_operator = 3
binary_level in_operator = 5
binary_level contains_operator = 1
binary_level contains_all_operator = 1
binary_level contains_any_operator = 1
binary_level get_tag_operator = 1
binary_level has_tag_operator = 1

-- the level of an expression
abbrev pub level : Term → ℕ
level (literal l) = literal_level l
level (variable v) = 1
level (slot s) = 1
level (unknown n t) = 1
level (if_then_else c a b) = 8
level (both a b) = 6
level (either a b) = 7
level (unary op a) = unary_level op
level (binary op a b) = binary_level op
level (call f ts) = 1
level (get_attribute e a) = 1
level (has_attribute e a) = 5
level (extended_has e a more) = 5
level (like e p) = 5
level (is_of_type e t) = 5
level (set_of ts) = 1
level (record_of fs) = 1

-- the lowest level that a sign takes: a minus before a number that stands alone is the number's own
abbrev pub lowest_level : UnaryOperator → ℕ
lowest_level not_operator = 0
lowest_level neg_operator = 1
lowest_level is_empty_operator = 0

-- the highest level that an operator takes on its left: a relation takes no relation
abbrev pub left_level : BinaryOperator → ℕ
left_level eq_operator = 4
left_level less_operator = 4
left_level less_eq_operator = 4
left_level add_operator = 4
left_level sub_operator = 4
left_level mul_operator = 3
left_level in_operator = 4
left_level contains_operator = 1
left_level contains_all_operator = 1
left_level contains_any_operator = 1
left_level get_tag_operator = 1
left_level has_tag_operator = 1

-- the highest level that it takes on its right: below its own, and any for an argument
abbrev pub right_level : BinaryOperator → ℕ
right_level eq_operator = 4
right_level less_operator = 4
right_level less_eq_operator = 4
right_level add_operator = 3
right_level sub_operator = 3
right_level mul_operator = 2
right_level in_operator = 4
right_level contains_operator = 8
right_level contains_all_operator = 8
right_level contains_any_operator = 8
right_level get_tag_operator = 8
right_level has_tag_operator = 8

-- whether an expression stands without brackets where these levels are taken
unfoldable pub fits : ℕ → ℕ → Term → Bool
fits low high t = nat_le low (level t) && nat_le (level t) high
