-- A condition in which a part is taken to be so means the same in each world in which the part is so.
use Rattle.std.proofs.Common.{◌≡◌, ◌∙◌, Bool, true, false, cond, refl, sym, ap}
use Rattle.cedar_model.specs.Terms.{bool_literal, UnaryOperator, not_operator, neg_operator, is_empty_operator, Term}
use Rattle.cedar_model.specs.Terms.{literal, variable, slot, unknown, if_then_else, both, either, unary, binary, call}
use Rattle.cedar_model.specs.Terms.{get_attribute, has_attribute, extended_has, like, is_of_type, set_of, record_of}
use Rattle.cedar_model.specs.Outcomes.{Outcome, gives_bool, and_then}
use Rattle.cedar_model.specs.World.{World, Slots, Extensions, Functions}
use Rattle.cedar_model.specs.Meaning.{meaning, and_then_bool, unary_meaning}
use Rattle.cedar_names.specs.Equality.{term_eq}
use Rattle.cedar_names.specs.EqualityLaws.{term_eq-decides}
use Rattle.cedar_explain.specs.Assuming.{assumed_alone, assumed_unary, assuming}

module _ (X : Extensions) (ans : Functions) (w : World) (slots : Slots) (u : Term) (b : Bool) (is : meaning X ans w slots u ≡ gives_bool b) where
  abbrev M : Term → Outcome
  M t = meaning X ans w slots t

  truth_same : (t : Term) → t ≡ u → M (literal (bool_literal b)) ≡ M t
  unfolding meaning
  truth_same t same = sym is ∙ sym (ap M same)

  alone_by : (c : Bool) (t : Term) → (c ≡ true → t ≡ u) → M (cond c (literal (bool_literal b)) t) ≡ M t
  alone_by true t same = truth_same t (same refl)
  alone_by false t same = refl

  alone_same : (t : Term) → M (assumed_alone u b t) ≡ M t
  alone_same t = alone_by (term_eq t u) t (term_eq-decides t u).0

  unary_same : (op : UnaryOperator) (a s : Term) → M s ≡ M a → M (assumed_unary u b op a s) ≡ M (unary op a)
  unfolding meaning
  unary_same not_operator a s same = λ i. and_then (same i) (unary_meaning not_operator)
  unary_same neg_operator a s same = alone_same (unary neg_operator a)
  unary_same is_empty_operator a s same = alone_same (unary is_empty_operator a)

  pub assumed_same : (t : Term) → M (assuming u b t) ≡ M t
  unfolding meaning
  assumed_same (literal l) = alone_same (literal l)
  assumed_same (variable v) = alone_same (variable v)
  assumed_same (slot s) = alone_same (slot s)
  assumed_same (unknown n t) = alone_same (unknown n t)
  assumed_same (if_then_else c x y) =
      λ i. and_then_bool (assumed_same c i) (λ t. cond t (assumed_same x i) (assumed_same y i))
  assumed_same (both x y) =
      λ i. and_then_bool (assumed_same x i) (λ t. cond t (and_then_bool (assumed_same y i) gives_bool) (gives_bool false))
  assumed_same (either x y) =
      λ i. and_then_bool (assumed_same x i) (λ t. cond t (gives_bool true) (and_then_bool (assumed_same y i) gives_bool))
  assumed_same (unary op x) = unary_same op x (assuming u b x) (assumed_same x)
  assumed_same (binary op x y) = alone_same (binary op x y)
  assumed_same (call f ts) = alone_same (call f ts)
  assumed_same (get_attribute x k) = alone_same (get_attribute x k)
  assumed_same (has_attribute x k) = alone_same (has_attribute x k)
  assumed_same (extended_has x k ks) = alone_same (extended_has x k ks)
  assumed_same (like x p) = alone_same (like x p)
  assumed_same (is_of_type x t) = alone_same (is_of_type x t)
  assumed_same (set_of ts) = alone_same (set_of ts)
  assumed_same (record_of fs) = alone_same (record_of fs)
