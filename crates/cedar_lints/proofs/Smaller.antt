-- The elements of a set are smaller than the set.
use Rattle.std.proofs.Common.{◌≡◌, ℕ, zero, suc, ◌+◌, ◌<◌, ◌≤◌, List, [], ◌∷◌, length, get_or, ap, arith}
use Rattle.cedar_model.specs.Sets.{represented_size, represented_values_size, represented_values_of}
use Rattle.cedar_values.specs.Sound.{Placed, whats}

at_place : (ps : List Placed) (i : ℕ) (d : Placed) → i < length ps →
    represented_size (get_or ps i d).what + 1 ≤ represented_values_size (represented_values_of (whats ps))
at_place [] i d h = absurd (omega arith)
at_place (p ∷ ps) zero d h = omega arith
at_place (p ∷ ps) (suc i) d h = let k = at_place ps i d (omega arith) in omega arith

pub element_smaller : (ps : List Placed) (i : ℕ) (p : Placed) → i < length ps → p ≡ get_or ps i p →
    represented_size p.what + 1 ≤ represented_values_size (represented_values_of (whats ps))
element_smaller ps i p h is =
    let k = at_place ps i p h in
    let same = ap (λ (q : Placed). represented_size q.what) is in
    omega arith
