-- The operands of a part: of what it is computed.
use Rattle.std.specs.Prelude.{Bool, true, false, cond, List, [], ◌∷◌, ◌++◌, map}
use Rattle.std.specs.Borrow.{Bor}
use Rattle.cedar_model.specs.Terms.{Term, literal, variable, slot, unknown, if_then_else, both, either, unary, binary}
use Rattle.cedar_model.specs.Terms.{call, get_attribute, has_attribute, extended_has, like, is_of_type, set_of}
use Rattle.cedar_model.specs.Terms.{record_of, Terms, no_terms, one_term}
use Rattle.cedar_expressions.specs.declared.expr.Expr.{Expr}
use Rattle.cedar_expressions.specs.View.{view}

abbrev pub is_literal : Term → Bool
is_literal (literal l) = true
is_literal (variable v) = false
is_literal (slot s) = false
is_literal (unknown n t) = false
is_literal (if_then_else c a b) = false
is_literal (both a b) = false
is_literal (either a b) = false
is_literal (unary op a) = false
is_literal (binary op a b) = false
is_literal (call f ts) = false
is_literal (get_attribute a k) = false
is_literal (has_attribute a k) = false
is_literal (extended_has a k ks) = false
is_literal (like a p) = false
is_literal (is_of_type a t) = false
is_literal (set_of ts) = false
is_literal (record_of fs) = false

-- the expression, unless it is a literal
abbrev pub unless_literal : Term → List Term
unless_literal t = cond (is_literal t) [] (t ∷ [])

-- those that are no literals
abbrev pub none_literal : Terms → List Term
none_literal no_terms = []
none_literal (one_term t ts) = unless_literal t ++ none_literal ts

-- what a part is computed of, in the order of evaluation, but for literals; a set and a record are told whole
abbrev pub operands : Term → List Term
operands (literal l) = []
operands (variable v) = []
operands (slot s) = []
operands (unknown n t) = []
operands (if_then_else c a b) = []
operands (both a b) = []
operands (either a b) = []
operands (unary op a) = unless_literal a
operands (binary op a b) = unless_literal a ++ unless_literal b
operands (call f ts) = none_literal ts
operands (get_attribute a k) = unless_literal a
operands (has_attribute a k) = unless_literal a
operands (extended_has a k ks) = unless_literal a
operands (like a p) = unless_literal a
operands (is_of_type a t) = unless_literal a
operands (set_of ts) = []
operands (record_of fs) = []

-- what these expressions are
abbrev pub terms_seen : List (Bor Expr) → List Term
terms_seen es = map (λ (e : Bor Expr). view e.now) es
