-- The attributes of a walk are in the order of their names.
use Rattle.std.proofs.Common.{◌≡◌, ◌-◌, ◌<◌, ◌≤◌, ℕ, zero, suc, List, [], ◌∷◌, length, drop, map, Option, Global}
use Rattle.std.proofs.Common.{Less, refl, subst, arith}
use Rattle.std.specs.Cmp.Lexicographic.{slice_cmp}
use Rattle.std.specs.List.{AllByRecursion}
use Rattle.std.specs.List.Sorted.{IsStrictlySortedBy}
use Rattle.std.specs.Map.{keys_of}
use Rattle.std.specs.Ordering.{nat_cmp}
use Rattle.std.specs.Rc.{rc_str_bytes}
use Rattle.std.specs.declared.rc.RcStr.{RcStr}
use Rattle.cedar_model.specs.Terms.{Term}
use Rattle.cedar_names.specs.declared.names.Loc.{Loc}
use Rattle.cedar_expressions.specs.Nodes.{key_order}
use Rattle.cedar_requests.specs.Walks.{Attribute, attribute_names}

module _ {A : Type 0} (part : RcStr Global × A → Term × Option Loc) where
  abbrev pub attribute : RcStr Global × A → Attribute
  attribute p = (rc_str_bytes p.0, part p)

  all_above : (first : RcStr Global) (es : List (RcStr Global × A))
      → AllByRecursion (λ k. key_order first k ≡ Less) (keys_of es)
      → AllByRecursion (λ n. slice_cmp nat_cmp (rc_str_bytes first) n ≡ Less) (attribute_names (map attribute es))
  all_above first [] h = h
  all_above first (e ∷ es) h = (h.0, all_above first es h.1)

  -- the entries of a map are in the order of their keys
  pub in_order : (es : List (RcStr Global × A)) → IsStrictlySortedBy key_order (keys_of es)
      → IsStrictlySortedBy (slice_cmp nat_cmp) (attribute_names (map attribute es))
  unfolding IsStrictlySortedBy
  in_order [] h = h
  in_order (e ∷ es) h = (all_above e.0 es h.0, in_order es h.1)

-- ---- the last so many of a list

-- where all are left, the list is
pub all_left : (xs : List Attribute) (n left : ℕ) → left ≡ n → drop (n - left) xs ≡ xs
all_left xs n left all =
    let none : 0 ≡ n - left = omega arith in
    subst (λ k. drop k xs ≡ xs) none refl

-- the one at an index comes first of those from there on
first_left : (xs : List Attribute) (i : ℕ) → i < length xs
    → (a : Attribute) × (drop i xs ≡ a ∷ drop (suc i) xs)
first_left [] i h = absurd (omega arith)
first_left (x ∷ xs) zero h = (x, refl)
first_left (x ∷ xs) (suc i) h = first_left xs i (omega arith)

-- the first of them is passed
pub one_passed : (xs : List Attribute) (n left : ℕ) → length xs ≡ n → left ≤ n → 0 < left
    → (a : Attribute) × (drop (n - left) xs ≡ a ∷ drop (n - (left - 1)) xs)
one_passed xs n left is within some =
    let further : suc (n - left) ≡ n - (left - 1) = omega arith in
    let inside : n - left < length xs = omega arith in
    subst (λ k. (a : Attribute) × (drop (n - left) xs ≡ a ∷ drop k xs)) further (first_left xs (n - left) inside)
