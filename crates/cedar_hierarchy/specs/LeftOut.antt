-- Which entities a partial store records, and which it leaves out, since a parent that they lead to is not among those
-- that were handed in.
use Rattle.std.specs.Prelude.{◌≡◌, ◌↔◌, ⊤, true, false, List, map, Option, None, Some}
use Rattle.cedar_model.specs.Terms.{EntityName}
use Rattle.cedar_model.specs.Settings.{is_among}
use Rattle.cedar_layers.specs.declared.policies.entities.Entity.{Entity}
use Rattle.cedar_layers.specs.Stores.{entity_name}
use Rattle.cedar_hierarchy.specs.Paths.{Leads}
use Rattle.cedar_hierarchy.specs.Ancestry.{parents_of, KeepsParts}

-- parents lead from this entity to one that is not among these entities
pub record IsLeftOut (es : List Entity) (n : EntityName) : Type 0 where
  pub missing : EntityName
  pub led_to : Leads (parents_of es) n missing
  pub not_there : is_among missing (map entity_name es) ≡ false

-- it is among these entities, and so is all that its parents lead to
pub record IsRecorded (es : List Entity) (n : EntityName) : Type 0 where
  pub there : is_among n (map entity_name es) ≡ true
  pub kept : ¬ IsLeftOut es n

-- what was handed in of an entity, and what the store has of it: the same but for its ancestors, or none both times;
-- where the entity is left out, and only there, the store has none
abbrev pub IsKeptOrLeftOut : List Entity → EntityName → Option Entity → Option Entity → Type 0
IsKeptOrLeftOut es n None None = ⊤
IsKeptOrLeftOut es n None (Some f) = ⊥
IsKeptOrLeftOut es n (Some e) None = IsLeftOut es n
IsKeptOrLeftOut es n (Some e) (Some f) = KeepsParts e f × ¬ IsLeftOut es n

-- each entity that is recorded of these has the same parents in a larger list
abbrev pub HaveTheSameParents : List Entity → List Entity → Type 0
HaveTheSameParents these larger =
    (n m : EntityName) → IsRecorded these n → is_among m (parents_of larger n) ≡ is_among m (parents_of these n)

-- it then has the same ancestors there, whatever else the larger list has
abbrev pub AncestorsStay : Type 0
AncestorsStay =
    (these larger : List Entity) → HaveTheSameParents these larger → (n m : EntityName) → IsRecorded these n
    → Leads (parents_of larger) n m ↔ Leads (parents_of these) n m
