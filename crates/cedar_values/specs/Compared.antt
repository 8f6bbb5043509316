-- How lists of values compare, part by part.
use Rattle.std.specs.Prelude.{◌≡◌, Bool, true, false, List, [], ◌∷◌, Some}
use Rattle.std.proofs.Common.{refl}
use Rattle.std.specs.Rc.{rc_str_bytes}
use Rattle.std.specs.declared.alloc.Global.{Global}
use Rattle.std.specs.declared.rc.RcStr.{RcStr}
use Rattle.std.specs.declared.cmp.Ordering.{Ordering}
use Rattle.std.specs.declared.cmp.Ordering.TheVariants.{Less, Equal, Greater}
use Rattle.std.specs.Ordering.{ordering_then, nat_cmp, is_eq}
use Rattle.std.specs.Cmp.{IsTotalOrder, IsEquivalence, IsPartialEquivalence, IsPartialOrder, partial_equiv_from_equiv, partial_order_from_agreeing_total}
use Rattle.std.proofs.lemmas.Cmp.{on_total, on_equiv}
use Rattle.std.specs.Cmp.Lexicographic.{slice_cmp}
use Rattle.cedar_model.specs.Values.{Represented, abstract_value}
use Rattle.cedar_model.specs.Keys.{value_cmp}
use Rattle.cedar_model.specs.lemmas.Keys.{value_cmp-total, value_eq-equivalence}
use Rattle.cedar_model.specs.Failures.{PartialValue, value, residual}
use Rattle.cedar_names.specs.Equality.{term_eq}
use Rattle.cedar_names.specs.EqualityLaws.{term_eq-equivalence}
use Rattle.cedar_values.specs.Sound.{Placed}

-- the order of values, representations aside
abbrev pub represented_cmp : Represented → Represented → Ordering
represented_cmp v w = value_cmp (abstract_value v) (abstract_value w)

-- their equality
abbrev pub represented_eq : Represented → Represented → Bool
represented_eq v w = is_eq (represented_cmp v w)

pub represented_cmp-total : IsTotalOrder represented_cmp
represented_cmp-total = on_total abstract_value value_cmp-total

pub represented_eq-equivalence : IsEquivalence represented_eq
represented_eq-equivalence = on_equiv abstract_value value_eq-equivalence

-- the laws of what is ordered as the value that it is seen as
module _ {X : Type 0} (seen : X → Represented) where
  abbrev pub seen_cmp : X → X → Ordering
  seen_cmp a b = represented_cmp (seen a) (seen b)

  abbrev pub seen_eq : X → X → Bool
  seen_eq a b = represented_eq (seen a) (seen b)

  pub seen_equivalence : IsEquivalence seen_eq
  seen_equivalence = on_equiv seen represented_eq-equivalence

  pub seen_partial_equivalence : IsPartialEquivalence seen_eq
  seen_partial_equivalence = partial_equiv_from_equiv seen_equivalence

  pub seen_total : IsTotalOrder seen_cmp
  seen_total = on_total seen represented_cmp-total

  pub seen_partial_order : IsPartialOrder seen_eq (λ a b. Some (seen_cmp a b))
  seen_partial_order =
      partial_order_from_agreeing_total seen_cmp seen_total (λ a b. refl) (λ a b. refl)

-- lists of values: the first two that differ decide
abbrev pub listed_cmp : List Placed → List Placed → Ordering
listed_cmp = slice_cmp (λ p q. represented_cmp p.what q.what)

-- values under their keys: keys and values in turn
abbrev pub entries_cmp : List (RcStr Global × Placed) → List (RcStr Global × Placed) → Ordering
entries_cmp [] [] = Equal
entries_cmp [] (g ∷ gs) = Less
entries_cmp (f ∷ fs) [] = Greater
entries_cmp (f ∷ fs) (g ∷ gs) =
    ordering_then (slice_cmp nat_cmp (rc_str_bytes f.0) (rc_str_bytes g.0)) (ordering_then (represented_cmp f.1.what g.1.what) (entries_cmp fs gs))

-- partial values: values as values, and residuals as terms
abbrev pub partial_eq : PartialValue → PartialValue → Bool
partial_eq (value v) (value w) = represented_eq v w
partial_eq (value v) (residual t) = false
partial_eq (residual s) (value w) = false
partial_eq (residual s) (residual t) = term_eq s t

partial_refl : (p : PartialValue) → partial_eq p p ≡ true
partial_refl (value v) = represented_eq-equivalence.refl v
partial_refl (residual t) = term_eq-equivalence.refl t

partial_symm : (p q : PartialValue) → partial_eq p q ≡ partial_eq q p
partial_symm (value v) (value w) = represented_eq-equivalence.symm v w
partial_symm (value v) (residual t) = refl
partial_symm (residual s) (value w) = refl
partial_symm (residual s) (residual t) = term_eq-equivalence.symm s t

partial_congr : (p q r : PartialValue) → partial_eq p q ≡ true → partial_eq p r ≡ partial_eq q r
partial_congr (value u) (value v) (value w) h = represented_eq-equivalence.congr u v w h
partial_congr (value u) (value v) (residual t) h = refl
partial_congr (value u) (residual s) r h = absurd (cc)
partial_congr (residual s) (value v) r h = absurd (cc)
partial_congr (residual s) (residual t) (value w) h = refl
partial_congr (residual s) (residual t) (residual u) h = term_eq-equivalence.congr s t u h

pub partial_eq-equivalence : IsEquivalence partial_eq
partial_eq-equivalence = record { refl = partial_refl; symm = partial_symm; congr = partial_congr }
