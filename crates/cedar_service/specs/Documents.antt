-- JSON documents, and texts of their parts.
use Rattle.std.specs.Prelude.{◌≡◌, ◌≤◌, ◌++◌, ◌∷◌, ◌||◌, [], ℕ, Bool, List, if◌then◌else◌, Some, bytes_eq, codes}
use Rattle.std.specs.Borrow.{Bor}
use Rattle.json.specs.Json.{Json, null, boolean, number, string, array, object, Members, no_members, member, document, max_depth}
use Rattle.json.specs.Strict.{HasUniqueKeys}
use Rattle.json.specs.Tree.{depth, HasNumbers}
use Rattle.cedar_model.specs.Terms.{Text}

-- its numbers are numbers, and it is no deeper than a text may be
pub record IsWritable (j : Json) : Type 0 where
  pub numbers : HasNumbers j
  pub nests : depth j ≤ max_depth

-- the text is this JSON, in which no object has a key twice
pub record IsReadAs (text : Text) (j : Json) : Type 0 where
  pub is_json : document text ≡ Some j
  pub unique : HasUniqueKeys j
  pub writable : IsWritable j

-- the text is this JSON
abbrev pub IsTextFor : Json → Text → Type 0
IsTextFor j t = document t ≡ Some j

-- what stands in a request beside what it asks: entities that it brings, and an id
abbrev pub is_beside : Text → Bool
is_beside k = bytes_eq k (codes "entities") || bytes_eq k (codes "id")

-- the members but for these
abbrev pub without : Members → Members
without no_members = no_members
without (member l j ms) = if is_beside l then without ms else member l j (without ms)

-- the JSON but for such members
abbrev pub without_beside : Json → Json
without_beside null = null
without_beside (boolean b) = boolean b
without_beside (number n) = number n
without_beside (string t) = string t
without_beside (array js) = array js
without_beside (object ms) = object (without ms)

-- the members, and this one behind them unless it is such a one; for private clauses
abbrev pub with_asked : {V : Type 0} → List (Bor (List ℕ) × V) → Bor (List ℕ) × V → List (Bor (List ℕ) × V)
with_asked ms m = if is_beside m.0.now then ms else (ms ++ m ∷ [])
