-- Members: how many there are.
use Rattle.std.proofs.Common.{◌≡◌, ℕ, suc, List, [], ◌∷◌, length, refl, ap}
use Rattle.std.specs.Borrow.{Bor}
use Rattle.json.specs.Strict.{keys}
use Rattle.json.specs.Value.{members_view}
use Rattle.json.specs.declared.value.Value.{Value}

pub keys_count : {A : Type 0} (ms : List (Bor (List ℕ) × Value A)) → length (keys (members_view ms)) ≡ length ms
keys_count [] = refl
keys_count (m ∷ ms) = ap suc (keys_count ms)

pub ruleset members = (keys_count)
