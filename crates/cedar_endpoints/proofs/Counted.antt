-- How many items there are, and how many parents they name.
use Rattle.std.proofs.Common.{◌≡◌, ◌==◌, List, ℕ, suc, [], ◌∷◌, length, nat_lt, Some, ap, refl, sym, arith}
use Rattle.std.proofs.lemmas.Bool.Decides.{nat_tests}
use Rattle.json.specs.Value.{items_view}
use Rattle.json.specs.declared.value.Value.{Value}
use Rattle.cedar_endpoints.specs.Bounds.{is_empty_array}
use Rattle.cedar_endpoints.specs.Several.{item_count}

pub counted : {A : Type 0} (vs : List (Value A)) → item_count (items_view vs) ≡ length vs
counted [] = refl
counted (v ∷ vs) = ap suc (counted vs)

pub as_count : {A : Type 0} (vs : List (Value A)) → length vs ≡ item_count (items_view vs)
as_count vs = sym (counted vs)

pub as_counted : {A : Type 0} (vs : List (Value A)) (n : ℕ) → nat_lt n (length vs) ≡ nat_lt n (item_count (items_view vs))
as_counted vs n = ap (λ k. nat_lt n k) (sym (counted vs))

pub as_empty : {A : Type 0} (vs : List (Value A)) → (length vs == 0) ≡ is_empty_array (Some (items_view vs))
as_empty [] = refl
as_empty (v ∷ vs) = grind (arith, nat_tests)

pub ruleset counts = (as_count, as_counted, as_empty)
