-- Those of a list that are kept.
use Rattle.std.specs.Prelude.{◌≡◌, Bool, cond, List, [], ◌∷◌}

-- each element in order comes out as true or false, and is kept exactly where it comes out as true
abbrev pub AreKept : {K : Type 0} → (K → Bool → Type 0) → List K → List K → Type 0
AreKept Is [] kept = kept ≡ []
AreKept Is (k ∷ ks) kept =
    (b : Bool) × (rest : List _) × Is k b × AreKept Is ks rest × (kept ≡ cond b (k ∷ rest) rest)
