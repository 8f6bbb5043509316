-- How much a request may ask and bring.
use Rattle.std.specs.Prelude.{◌+◌, ℕ, nat_lt, Bool, true, false, not, if◌then◌else◌, Option, Some, None, codes}
use Rattle.json.specs.Json.{Json, Items, no_items, item}
use Rattle.json.specs.Find.{as_array, get}
use Rattle.cedar_endpoints.specs.declared.bounds.Bounds.{Bounds}
use Rattle.cedar_endpoints.specs.declared.bounds.Excess.{Excess}
use Rattle.cedar_endpoints.specs.declared.bounds.Excess.TheVariants as excess
use Rattle.cedar_endpoints.specs.Several.{item_count}

-- ---- whether some are brought

abbrev pub is_empty_array : Option Items → Bool
is_empty_array None = false
is_empty_array (Some no_items) = true
is_empty_array (Some (item j js)) = false

-- whether entities are brought: they are there, and are no empty array
abbrev pub brings : Option Json → Bool
brings None = false
brings (Some j) = not (is_empty_array (as_array j))

-- ---- how many

-- what is no array has no items
abbrev pub count_in : Option Items → ℕ
count_in None = 0
count_in (Some js) = item_count js

abbrev pub count_at : Option Json → ℕ
count_at None = 0
count_at (Some j) = count_in (as_array j)

-- how many parents an entity names
abbrev pub parent_count : Json → ℕ
parent_count j = count_at (get (codes "parents") j)

-- how many the entities name, all together
abbrev pub parents_in : Items → ℕ
parents_in no_items = 0
parents_in (item j js) = parent_count j + parents_in js

-- ---- too much

-- more entities than may be brought, or else more parents than these may name
abbrev pub excess_among : Bounds → Items → Option Excess
excess_among b js =
    if nat_lt b.entities (item_count js) then Some excess.Entities else (
    if nat_lt b.ancestors (parents_in js) then Some excess.Parents else None)

abbrev pub excess_in : Bounds → Option Items → Option Excess
excess_in b None = None
excess_in b (Some js) = excess_among b js

-- of what too much is brought, if of something
abbrev pub excess_of : Bounds → Option Json → Option Excess
excess_of b None = None
excess_of b (Some j) = excess_in b (as_array j)
