-- What is left to write, one part after another.
use Rattle.std.proofs.Common.{◌≡◌, ℕ, ◌+◌, ◌<◌, List, ◌++◌, length, get_or, drop, map, flat_map, append_assoc}
use Rattle.std.proofs.lemmas.List.{drop_more}

-- one text of a list
pub flat_map_left : {X Y : Type 0} (f : Y → List ℕ) (v : X → Y) (xs : List X) (i : ℕ) (d : X) (done total : List ℕ) → i < length xs
    → done ++ flat_map f (map v (drop i xs)) ≡ total → (done ++ f (v (get_or xs i d))) ++ flat_map f (map v (drop (i + 1) xs)) ≡ total
flat_map_left f v xs i d done total h whole = rw append_assoc (rw (drop_more xs i d h) at whole)
