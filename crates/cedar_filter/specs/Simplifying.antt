-- Expressions without what is known in them: `&&`, `||`, `!` and `if` of known truths, and comparisons of literals.
use Rattle.std.specs.Prelude.{◌≡◌, ℤ, Bool, true, false, cond, not, ◌&&◌, Option, Some, None, is_some, option_map}
use Rattle.std.specs.declared.cmp.Ordering.{Ordering}
use Rattle.std.specs.Ordering.{int_cmp, is_lt, is_le}
use Rattle.cedar_model.specs.Terms.{Literal, bool_literal, long_literal, text_literal, entity_literal}
use Rattle.cedar_model.specs.Terms.{UnaryOperator, not_operator, neg_operator, is_empty_operator, BinaryOperator}
use Rattle.cedar_model.specs.Terms.{eq_operator, less_operator, less_eq_operator, add_operator, sub_operator}
use Rattle.cedar_model.specs.Terms.{mul_operator, in_operator, contains_operator, contains_all_operator}
use Rattle.cedar_model.specs.Terms.{contains_any_operator, get_tag_operator, has_tag_operator, Term, literal, variable}
use Rattle.cedar_model.specs.Terms.{slot, unknown, if_then_else, both, either, unary, binary, call, get_attribute}
use Rattle.cedar_model.specs.Terms.{has_attribute, extended_has, like, is_of_type, set_of, record_of}
use Rattle.cedar_model.specs.Values.{plain}
use Rattle.cedar_model.specs.Keys.{value_eq}
use Rattle.cedar_model.specs.World.{World, Slots, Extensions, Functions}
use Rattle.cedar_model.specs.Meaning.{meaning}

-- ---- what is known of an expression

-- the literal that it is
abbrev pub known_literal : Term → Option Literal
known_literal (literal l) = Some l
known_literal t = None

-- the truth of a literal
abbrev pub literal_truth : Literal → Option Bool
literal_truth (bool_literal b) = Some b
literal_truth (long_literal n) = None
literal_truth (text_literal t) = None
literal_truth (entity_literal e) = None

abbrev pub truth_of : Option Literal → Option Bool
truth_of None = None
truth_of (Some l) = literal_truth l

-- the truth that it is, if it is `true` or `false`
abbrev pub known_truth : Term → Option Bool
known_truth t = truth_of (known_literal t)

abbrev pub is_true : Option Bool → Bool
is_true None = false
is_true (Some b) = b

abbrev pub is_false : Option Bool → Bool
is_false None = false
is_false (Some b) = not b

-- whether the operator answers nothing but booleans
abbrev pub answers_bools : BinaryOperator → Bool
answers_bools eq_operator = true
answers_bools less_operator = true
answers_bools less_eq_operator = true
answers_bools add_operator = false
answers_bools sub_operator = false
answers_bools mul_operator = false
answers_bools in_operator = true
answers_bools contains_operator = true
answers_bools contains_all_operator = true
answers_bools contains_any_operator = true
answers_bools get_tag_operator = false
answers_bools has_tag_operator = true

abbrev pub answers_one_bool : UnaryOperator → Bool
answers_one_bool not_operator = true
answers_one_bool neg_operator = false
answers_one_bool is_empty_operator = true

-- whether the expression shows that it means nothing but a boolean, or an error
abbrev pub is_boolean : Term → Bool
is_boolean (literal l) = is_some (literal_truth l)
is_boolean (variable v) = false
is_boolean (slot s) = false
is_boolean (unknown n t) = false
is_boolean (if_then_else c a b) = is_boolean a && is_boolean b
is_boolean (both a b) = true
is_boolean (either a b) = true
is_boolean (unary op a) = answers_one_bool op
is_boolean (binary op a b) = answers_bools op
is_boolean (call f ts) = false
is_boolean (get_attribute a k) = false
is_boolean (has_attribute a k) = true
is_boolean (extended_has a k ks) = true
is_boolean (like a p) = true
is_boolean (is_of_type a t) = true
is_boolean (set_of ts) = false
is_boolean (record_of fs) = false

-- ---- one connective

-- `false && b` is `false`, `true && b` is `b`, and `a && true` is `a`: the last two where what is left is a boolean
abbrev pub simpler_both : Term → Term → Term
simpler_both a b =
    cond (is_false (known_truth a)) a
    (cond (is_true (known_truth a) && is_boolean b) b
    (cond (is_true (known_truth b) && is_boolean a) a (both a b)))

-- `true || b` is `true`, `false || b` is `b`, and `a || false` is `a`: the last two where what is left is a boolean
abbrev pub simpler_either : Term → Term → Term
simpler_either a b =
    cond (is_true (known_truth a)) a
    (cond (is_false (known_truth a) && is_boolean b) b
    (cond (is_false (known_truth b) && is_boolean a) a (either a b)))

-- what stands under a `!`, if it is a boolean
abbrev pub negated_part : Term → Option Term
negated_part (unary not_operator a) = cond (is_boolean a) (Some a) None
negated_part t = None

abbrev pub or_else : Option Term → Term → Term
or_else None t = t
or_else (Some s) t = s

abbrev pub truth_or : Option Bool → Term → Term
truth_or None t = t
truth_or (Some b) t = literal (bool_literal b)

abbrev pub negated_truth : Option Bool → Option Bool
negated_truth None = None
negated_truth (Some b) = Some (not b)

-- `!` of a known truth is the other one, and `!!a` is `a` where `a` is a boolean
abbrev pub simpler_not : Term → Term
simpler_not a = truth_or (negated_truth (known_truth a)) (or_else (negated_part a) (unary not_operator a))

-- `if` of a known truth is its branch
abbrev pub simpler_if : Term → Term → Term → Term
simpler_if c a b =
    cond (is_true (known_truth c)) a (cond (is_false (known_truth c)) b (if_then_else c a b))

-- ---- comparisons of literals

abbrev pub known_long : Option Literal → Option ℤ
known_long None = None
known_long (Some (bool_literal b)) = None
known_long (Some (long_literal n)) = Some n
known_long (Some (text_literal t)) = None
known_long (Some (entity_literal e)) = None

abbrev pub equal_literals : Option Literal → Option Literal → Option Bool
equal_literals None m = None
equal_literals (Some l) None = None
equal_literals (Some l) (Some m) = Some (value_eq (plain l) (plain m))

abbrev pub longs_order : Option ℤ → Option ℤ → Option Ordering
longs_order None n = None
longs_order (Some m) None = None
longs_order (Some m) (Some n) = Some (int_cmp m n)

-- what `==` says of two literals, and `<` and `<=` of two longs
abbrev pub comparison_truth : BinaryOperator → Option Literal → Option Literal → Option Bool
comparison_truth eq_operator l m = equal_literals l m
comparison_truth less_operator l m = option_map is_lt (longs_order (known_long l) (known_long m))
comparison_truth less_eq_operator l m = option_map is_le (longs_order (known_long l) (known_long m))
comparison_truth add_operator l m = None
comparison_truth sub_operator l m = None
comparison_truth mul_operator l m = None
comparison_truth in_operator l m = None
comparison_truth contains_operator l m = None
comparison_truth contains_all_operator l m = None
comparison_truth contains_any_operator l m = None
comparison_truth get_tag_operator l m = None
comparison_truth has_tag_operator l m = None

abbrev pub simpler_binary : BinaryOperator → Term → Term → Term
simpler_binary op a b = truth_or (comparison_truth op (known_literal a) (known_literal b)) (binary op a b)

abbrev pub simpler_unary : UnaryOperator → Term → Term → Term
simpler_unary not_operator a s = simpler_not s
simpler_unary neg_operator a s = unary neg_operator a
simpler_unary is_empty_operator a s = unary is_empty_operator a

-- ---- the whole

-- what is known is dropped from within outwards, through `&&`, `||`, `!` and `if`; other kinds stay as they are
abbrev pub simplified : Term → Term
simplified (literal l) = literal l
simplified (variable v) = variable v
simplified (slot s) = slot s
simplified (unknown n t) = unknown n t
simplified (if_then_else c a b) = simpler_if (simplified c) (simplified a) (simplified b)
simplified (both a b) = simpler_both (simplified a) (simplified b)
simplified (either a b) = simpler_either (simplified a) (simplified b)
simplified (unary op a) = simpler_unary op a (simplified a)
simplified (binary op a b) = simpler_binary op a b
simplified (call f ts) = call f ts
simplified (get_attribute a k) = get_attribute a k
simplified (has_attribute a k) = has_attribute a k
simplified (extended_has a k ks) = extended_has a k ks
simplified (like a p) = like a p
simplified (is_of_type a t) = is_of_type a t
simplified (set_of ts) = set_of ts
simplified (record_of fs) = record_of fs

-- ---- what it promises

-- both mean the same value, or the same kind of error, in every world
abbrev pub MeanTheSame : Term → Term → Type 0
MeanTheSame s t =
    (X : Extensions) (ans : Functions) (w : World) (slots : Slots) → meaning X ans w slots s ≡ meaning X ans w slots t
