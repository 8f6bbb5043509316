-- Records that look like an entity, in entities and in contexts.
use Rattle.std.specs.Prelude.{◌≡◌, List, [], ◌∷◌, ◌++◌, map, Option, None, Some}
use Rattle.std.specs.declared.alloc.Global.{Global}
use Rattle.std.specs.declared.rc.RcStr.{RcStr}
use Rattle.std.specs.declared.vec.Vec.{Vec}
use Rattle.cedar_model.specs.Terms.{Text, EntityName}
use Rattle.cedar_model.specs.Failures.{PartialValue, value, residual}
use Rattle.cedar_model.specs.Settings.{StoredEntity, part_at, names_of}
use Rattle.cedar_names.specs.Leaves.{texts_view}
use Rattle.cedar_names.specs.Names.{uid_name}
use Rattle.cedar_layers.specs.declared.policies.entities.Entities.{Entities}
use Rattle.cedar_layers.specs.Stores.{entity_view}
use Rattle.cedar_lints.specs.declared.lookalikes.Part as parts
use Rattle.cedar_lints.specs.declared.lookalikes.Part.TheVariants as part_kinds
use Rattle.cedar_lints.specs.declared.lookalikes.Lookalike as declared
use Rattle.cedar_lints.specs.declared.lookalikes.Sheet as sheets
pub use Rattle.cedar_lints.specs.Keys.{once}
use Rattle.cedar_lints.specs.Keys.{Key, Sheet, has_key}
use Rattle.cedar_lints.specs.Listing.{Listing, IsListing}
use Rattle.cedar_lints.specs.Paths.{Path, alike_below, paths_view}

-- which parts of entities are looked at
pub data Part : Type 0 where
  attributes : Part
  tags : Part

abbrev pub parts_of : Part → StoredEntity → List (Text × PartialValue)
parts_of attributes e = e.attributes
parts_of tags e = e.tags

-- a record that looks like an entity: the entity that has it, and the names that lead to it
pub record Lookalike : Type 0 where
  pub entity : EntityName
  pub names : Path

-- the paths in a part of this name; in what is stored as a residual none
abbrev pub part_paths : Text → PartialValue → List Path
part_paths k (value v) = alike_below (k ∷ []) v
part_paths k (residual t) = []

abbrev pub found_paths : Text → Option PartialValue → List Path
found_paths k None = []
found_paths k (Some p) = part_paths k p

-- the paths in the parts of these names
abbrev pub named_paths : List Text → List (Text × PartialValue) → List Path
named_paths [] ps = []
named_paths (k ∷ ks) ps = found_paths k (part_at k ps) ++ named_paths ks ps

abbrev pub paths_under : List (Text × PartialValue) → List Path
paths_under ps = named_paths (names_of ps) ps

-- the same paths, each of this entity
abbrev pub each_of : EntityName → List Path → List Lookalike
each_of e [] = []
each_of e (p ∷ ps) = record { entity = e; names = p } ∷ each_of e ps

-- those of entities, in their order
abbrev pub listed_lookalikes : Part → Listing → List Lookalike
listed_lookalikes part [] = []
listed_lookalikes part (e ∷ es) =
    each_of (uid_name e.0) (paths_under (parts_of part (entity_view e.1.now))) ++ listed_lookalikes part es

-- the type of the entity, and then the names
abbrev pub lookalike_key : Lookalike → Key
lookalike_key l = l.entity.type_name ∷ l.names

-- those of the store's entities, in the order of their names: of each type of entities the first of each path
pub record AreLookalikesOf (part : Part) (s : Entities) (ls : List Lookalike) : Type 0 where
  pub listing : Listing
  pub is_listing : IsListing s listing
  pub are : ls ≡ once lookalike_key (listed_lookalikes part listing)

-- a path by itself
abbrev pub path_key : Path → Key
path_key p = p

-- ---- for private clauses

abbrev pub part_view : parts.Part → Part
part_view part_kinds.Attributes = attributes
part_view part_kinds.Tags = tags

abbrev pub lookalike_view : declared.Lookalike → Lookalike
lookalike_view l = record { entity = uid_name l.entity; names = texts_view l.names.items }

abbrev pub lookalikes_view : List declared.Lookalike → List Lookalike
lookalikes_view = map lookalike_view

abbrev pub sheet_view : sheets.Sheet → Sheet Lookalike
sheet_view s = record { has = has_key s.keys.keys; items = lookalikes_view s.items.items }

abbrev pub path_sheet : List (Vec (RcStr Global) Global) → List (Vec (RcStr Global) Global) → Sheet Path
path_sheet keys items = record { has = has_key keys; items = paths_view items }
