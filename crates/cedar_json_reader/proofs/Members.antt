-- Objects of one member and of two.
use Rattle.std.proofs.Common.{◌≡◌, ℕ, List, [], ◌∷◌, length, get_or, Some, None, refl, arith}
use Rattle.std.specs.Borrow.{Bor}
use Rattle.json.specs.Value.{value_view, members_view}
use Rattle.json.specs.declared.value.Value.{Value}
use Rattle.cedar_json_reader.specs.Shapes.{sole, two_in}

pub sole_one : {A : Type 0} (ms : List (Bor (List ℕ) × Value A)) (m : Bor (List ℕ) × Value A) → length ms ≡ 1 → Some ((get_or ms 0 m).0.now, value_view (get_or ms 0 m).1) ≡ sole (members_view ms)
sole_one [] m h = absurd (omega (arith, h))
sole_one (n ∷ []) m h = refl
sole_one (n ∷ o ∷ ms) m h = absurd (omega (arith, h))

pub sole_other : {A : Type 0} (ms : List (Bor (List ℕ) × Value A)) → (length ms ≡ 1 → ⊥) → None ≡ sole (members_view ms)
sole_other [] h = refl
sole_other (n ∷ []) h = absurd (h refl)
sole_other (n ∷ o ∷ ms) h = refl

pub two_both : {A : Type 0} (ms : List (Bor (List ℕ) × Value A)) (m n : Bor (List ℕ) × Value A) → length ms ≡ 2
    → Some (((get_or ms 0 m).0.now, value_view (get_or ms 0 m).1), ((get_or ms 1 n).0.now, value_view (get_or ms 1 n).1)) ≡ two_in (members_view ms)
two_both [] m n h = absurd (omega (arith, h))
two_both (o ∷ []) m n h = absurd (omega (arith, h))
two_both (o ∷ p ∷ []) m n h = refl
two_both (o ∷ p ∷ q ∷ ms) m n h = absurd (omega (arith, h))

pub two_other : {A : Type 0} (ms : List (Bor (List ℕ) × Value A)) → (length ms ≡ 2 → ⊥) → None ≡ two_in (members_view ms)
two_other [] h = refl
two_other (o ∷ []) h = refl
two_other (o ∷ p ∷ []) h = absurd (h refl)
two_other (o ∷ p ∷ q ∷ ms) h = refl
