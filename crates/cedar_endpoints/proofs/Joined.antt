-- Texts, joined.
use Rattle.std.proofs.Common.{◌≡◌, List, ℕ, [], ◌∷◌, ◌++◌, map, ap, refl}
use Rattle.std.specs.List.{join_by, flat_map}

flat_mapped : {X : Type 0} (f : X → List ℕ) (sep : List ℕ) (xs : List X)
    → flat_map (λ (y : X). sep ++ f y) xs ≡ flat_map (λ (t : List ℕ). sep ++ t) (map f xs)
flat_mapped f sep [] = refl
flat_mapped f sep (x ∷ xs) = ap (λ (l : List ℕ). (sep ++ f x) ++ l) (flat_mapped f sep xs)

-- the texts of a list joined are these texts joined
pub joined_texts : {X : Type 0} (f : X → List ℕ) (sep : List ℕ) (xs : List X)
    → join_by f sep xs ≡ join_by (λ (t : List ℕ). t) sep (map f xs)
joined_texts f sep [] = refl
joined_texts f sep (x ∷ xs) = ap (λ (l : List ℕ). f x ++ l) (flat_mapped f sep xs)
