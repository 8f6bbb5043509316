-- Stores of entities as plain data.
use Rattle.std.specs.Borrow.{Bor}
use Rattle.std.specs.BTreeMap.{BTreeMap}
use Rattle.std.specs.Prelude.{◌≡◌, ⊤, Bool, if◌then◌else◌, List, [], ◌∷◌, map, Option, None, Some, option_map, option_copied}
use Rattle.std.specs.Map.{lookup}
use Rattle.std.specs.Option.{option_or}
use Rattle.std.specs.Rc.{rc_str_bytes}
use Rattle.cedar_model.specs.Terms.{EntityName, unknown}
use Rattle.cedar_model.specs.Outcomes.{entity_eq}
use Rattle.cedar_model.specs.Settings.{StoredEntity, Store, Found, found, not_there, not_known, missing_entity}
use Rattle.std.specs.declared.alloc.Global.{Global}
use Rattle.std.specs.declared.rc.Rc.{Rc}
use Rattle.std.specs.declared.rc.RcStr.{RcStr}
use Rattle.cedar_values.specs.declared.partial_value.PartialValue.{PartialValue}
use Rattle.cedar_names.specs.declared.names.EntityUID.{EntityUID}
use Rattle.cedar_names.specs.Names.{uid_name}
use Rattle.cedar_names.specs.Leaves.{type_view}
use Rattle.cedar_layers.specs.declared.policies.entities.Dereference.{Dereference}
use Rattle.cedar_layers.specs.declared.policies.entities.Dereference.TheVariants as answers
use Rattle.cedar_layers.specs.declared.policies.entities.Entities.{Entities}
use Rattle.cedar_layers.specs.declared.policies.entities.Entity.{Entity}
use Rattle.cedar_values.specs.Sound.{Placed}
use Rattle.cedar_layers.specs.Parts.{parts_view, values_as_parts}

-- the parts of an entity as they were handed in, places included
abbrev pub entity_uid : Entity → EntityUID
entity_uid e = e.uid

abbrev pub entity_attributes : Entity → List (RcStr Global × PartialValue)
entity_attributes e = e.attrs.entries

abbrev pub entity_tags : Entity → List (RcStr Global × PartialValue)
entity_tags e = e.tags.entries

abbrev pub entity_ancestors : Entity → List EntityUID
entity_ancestors e = e.ancestors.keys

-- the name of an entity
abbrev pub entity_name : Entity → EntityName
entity_name e = uid_name e.uid

-- these attributes, ancestors and tags as plain data
abbrev pub facts_of : List (RcStr Global × PartialValue) → List EntityUID → List (RcStr Global × PartialValue) → StoredEntity
facts_of attrs ancestors tags =
    record { attributes = parts_view attrs; tags = parts_view tags; ancestors = map uid_name ancestors }

-- the same of attributes and tags that are values
abbrev pub facts_of_values : List (RcStr Global × Placed) → List EntityUID → List (RcStr Global × Placed) → StoredEntity
facts_of_values attrs ancestors tags = facts_of (values_as_parts attrs) ancestors (values_as_parts tags)

-- its attributes, tags and ancestors
abbrev pub entity_view : Entity → StoredEntity
entity_view e = facts_of e.attrs.entries e.ancestors.keys e.tags.entries

-- what a store has of each entity
abbrev pub Held : Type 0
Held = EntityName → Option StoredEntity

abbrev pub no_entities : Held
no_entities n = None

-- the same, but of this entity it has this
abbrev pub with_entity : Held → EntityName → StoredEntity → Held
with_entity before e facts n = if entity_eq n e then Some facts else before n

-- the same, but with these entities, of which a later one stays
abbrev pub with_entities : Held → List Entity → Held
with_entities before [] = before
with_entities before (e ∷ es) = with_entities (with_entity before (entity_name e) (entity_view e)) es

-- the entity itself of each name, as it was handed in
abbrev pub Standing : Type 0
Standing = EntityName → Option Entity

abbrev pub none_stands : Standing
none_stands n = None

-- the same, but this entity instead of one of its name
abbrev pub standing_with : Standing → Entity → Standing
standing_with before e n = if entity_eq n (entity_name e) then Some e else before n

-- the same, but with these entities, of which a later one stays
abbrev pub standing_with_each : Standing → List Entity → Standing
standing_with_each before [] = before
standing_with_each before (e ∷ es) = standing_with_each (standing_with before e) es

-- of these entities the last of each name
abbrev pub last_of_each_name : List Entity → Standing
last_of_each_name es = standing_with_each none_stands es

-- the store of these entities as plain data, of those of one name the last
abbrev pub store_of : List Entity → Bool → Store
store_of es is_partial = record { entity = with_entities no_entities es; is_partial = is_partial }

-- which entities stand in the entries of a map
abbrev pub standing : List (EntityUID × Entity) → Standing
standing es n = lookup (λ (u : EntityUID). entity_eq n (uid_name u)) es

-- the first and, of a name that it lacks, the second
abbrev pub or_below : Standing → Standing → Standing
or_below f g n = option_or (f n) (g n)

-- which entities stand in the entries of several maps, of one name that of the first map
abbrev pub standing_in : List (List (EntityUID × Entity)) → Standing
standing_in [] = none_stands
standing_in (es ∷ ess) = or_below (standing es) (standing_in ess)

-- the entries of the maps of a store, those that are asked first first
abbrev pub layers_of : Entities → List (List (EntityUID × Entity))
layers_of s = map (λ (r : Rc (BTreeMap EntityUID Entity) Global). r.value.entries) s.layers.items

-- the entity itself that a store has of this name
abbrev pub stored_entity : Entities → Standing
stored_entity s = standing_in (layers_of s)

-- a store as plain data
abbrev pub store_view : Entities → Store
store_view s = record { entity = λ n. option_map entity_view (stored_entity s n); is_partial = s.partial }

-- which entities a map shows
abbrev pub shown : List (EntityUID × Bor Entity) → Standing
shown es n = option_copied (lookup (λ (u : EntityUID). entity_eq n (uid_name u)) es)

-- the same, but where none stands under this name, this entity
abbrev pub with_below : Standing → EntityName → Entity → Standing
with_below before m e n = option_or (before n) (if entity_eq n m then Some e else None)

-- what a look-up answered
abbrev pub found_view : Dereference → Found
found_view answers.NoSuchEntity = not_there
found_view (answers.Residual u) = not_known
found_view (answers.Data e) = found (entity_view e.now)

-- the entity itself that a look-up answered, if it answered one
abbrev pub answered_entity : Dereference → Option Entity
answered_entity answers.NoSuchEntity = None
answered_entity (answers.Residual u) = None
answered_entity (answers.Data e) = Some e.now

-- an answered unknown is the one that stands for this entity
abbrev pub AsksFor : EntityName → Dereference → Type 0
AsksFor n answers.NoSuchEntity = ⊤
AsksFor n (answers.Residual u) = unknown (rc_str_bytes u.name) (option_map type_view u.type_annotation) ≡ missing_entity n
AsksFor n (answers.Data e) = ⊤
