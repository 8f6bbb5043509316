-- Header fields by their names and values.
use Rattle.std.proofs.Common.{◌≡◌, List, ℕ, [], ◌∷◌, ◌++◌, Result, OnOk, subst}
use Rattle.http1.specs.Fields.{Header}

-- a field that is put behind others, under the same name and with the same value
pub same_field : {T E : Type 0} (r : Result T E) (new old : List Header) (n m v w : List ℕ) → n ≡ m → v ≡ w
    → OnOk r (new ≡ old ++ (n, v) ∷ []) → OnOk r (new ≡ old ++ (m, w) ∷ [])
same_field r new old n m v w a b h =
    subst (λ (x : List ℕ). OnOk r (new ≡ old ++ (x, w) ∷ [])) a
    (subst (λ (y : List ℕ). OnOk r (new ≡ old ++ (n, y) ∷ [])) b h)
