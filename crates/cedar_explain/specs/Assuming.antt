-- A condition in which a part is taken to be true or false.
use Rattle.std.specs.Prelude.{Bool, cond}
use Rattle.cedar_model.specs.Terms.{bool_literal, UnaryOperator, not_operator, neg_operator, is_empty_operator, Term}
use Rattle.cedar_model.specs.Terms.{literal, variable, slot, unknown, if_then_else, both, either, unary, binary, call}
use Rattle.cedar_model.specs.Terms.{get_attribute, has_attribute, extended_has, like, is_of_type, set_of, record_of}
use Rattle.cedar_names.specs.Equality.{term_eq}

-- the truth, if the expression is the part, and else the expression
abbrev pub assumed_alone : Term → Bool → Term → Term
assumed_alone u b t = cond (term_eq t u) (literal (bool_literal b)) t

-- the same under a unary operator, of which `!` is looked into: what stands under it is then `s`
abbrev pub assumed_unary : Term → Bool → UnaryOperator → Term → Term → Term
assumed_unary u b not_operator a s = unary not_operator s
assumed_unary u b neg_operator a s = assumed_alone u b (unary neg_operator a)
assumed_unary u b is_empty_operator a s = assumed_alone u b (unary is_empty_operator a)

-- the truth stands in place of the part, wherever that stands inside `&&`, `||`, `!` and `if` alone
abbrev pub assuming : Term → Bool → Term → Term
assuming u b (literal l) = assumed_alone u b (literal l)
assuming u b (variable v) = assumed_alone u b (variable v)
assuming u b (slot s) = assumed_alone u b (slot s)
assuming u b (unknown n t) = assumed_alone u b (unknown n t)
assuming u b (if_then_else c x y) = if_then_else (assuming u b c) (assuming u b x) (assuming u b y)
assuming u b (both x y) = both (assuming u b x) (assuming u b y)
assuming u b (either x y) = either (assuming u b x) (assuming u b y)
assuming u b (unary op x) = assumed_unary u b op x (assuming u b x)
assuming u b (binary op x y) = assumed_alone u b (binary op x y)
assuming u b (call f ts) = assumed_alone u b (call f ts)
assuming u b (get_attribute x k) = assumed_alone u b (get_attribute x k)
assuming u b (has_attribute x k) = assumed_alone u b (has_attribute x k)
assuming u b (extended_has x k ks) = assumed_alone u b (extended_has x k ks)
assuming u b (like x p) = assumed_alone u b (like x p)
assuming u b (is_of_type x t) = assumed_alone u b (is_of_type x t)
assuming u b (set_of ts) = assumed_alone u b (set_of ts)
assuming u b (record_of fs) = assumed_alone u b (record_of fs)
