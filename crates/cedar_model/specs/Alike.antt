-- Answers that are alike: equal values, the same expression but for its calls, or errors of one kind.
use Rattle.std.specs.Prelude.{◌≡◌, List, [], map}
use Rattle.cedar_model.specs.Terms.{Text, Term, literal, variable, slot, unknown, if_then_else, both, either, unary}
use Rattle.cedar_model.specs.Terms.{binary, call, get_attribute, has_attribute, extended_has, like, is_of_type, set_of}
use Rattle.cedar_model.specs.Terms.{record_of, Terms, no_terms, one_term, Fields, no_fields, one_field}
use Rattle.cedar_model.specs.Values.{Represented, abstract_value}
use Rattle.cedar_model.specs.Failures.{failure_kind, PartialValue, value, residual, Answer, answers, fails}
use Rattle.cedar_model.specs.Rules.{StoredCalls}

-- the expression with each call taken out, its function and arguments alike. The representation of a value is a call,
-- so two expressions with values of other representations have this in common; and so have any two calls
abbrev mutual
  pub erased : Term → Term
  erased (literal l) = literal l
  erased (variable v) = variable v
  erased (slot s) = slot s
  erased (unknown n t) = unknown n t
  erased (if_then_else c a b) = if_then_else (erased c) (erased a) (erased b)
  erased (both a b) = both (erased a) (erased b)
  erased (either a b) = either (erased a) (erased b)
  erased (unary op a) = unary op (erased a)
  erased (binary op a b) = binary op (erased a) (erased b)
  erased (call f ts) = call [] no_terms
  erased (get_attribute a k) = get_attribute (erased a) k
  erased (has_attribute a k) = has_attribute (erased a) k
  erased (extended_has a k ks) = extended_has (erased a) k ks
  erased (like a p) = like (erased a) p
  erased (is_of_type a t) = is_of_type (erased a) t
  erased (set_of ts) = set_of (erased_each ts)
  erased (record_of fs) = record_of (erased_at fs)

  pub erased_each : Terms → Terms
  erased_each no_terms = no_terms
  erased_each (one_term t ts) = one_term (erased t) (erased_each ts)

  pub erased_at : Fields → Fields
  erased_at no_fields = no_fields
  erased_at (one_field k t fs) = one_field k (erased t) (erased_at fs)

-- the same value, or the same expression but for its calls
abbrev pub AreAlikeParts : PartialValue → PartialValue → Type 0
AreAlikeParts (value v) (value w) = abstract_value v ≡ abstract_value w
AreAlikeParts (value v) (residual r) = ⊥
AreAlikeParts (residual r) (value v) = ⊥
AreAlikeParts (residual r) (residual q) = erased r ≡ erased q

-- alike parts, or errors of one kind
abbrev pub AreAlike : Answer → Answer → Type 0
AreAlike (answers p) (answers q) = AreAlikeParts p q
AreAlike (answers p) (fails e) = ⊥
AreAlike (fails e) (answers p) = ⊥
AreAlike (fails e) (fails f) = failure_kind e ≡ failure_kind f

-- each stored function answers alike to equal arguments
abbrev pub AreFunctional : StoredCalls → Type 0
AreFunctional calls =
    (f : Text) (vs ws : List Represented) (a b : Answer) → map abstract_value vs ≡ map abstract_value ws → calls f vs a
    → calls f ws b → AreAlike a b
