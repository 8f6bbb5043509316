-- What is known: the entities and types that a store has, and those that a request names.
use Rattle.std.specs.Prelude.{◌≡◌, Bool, false, ◌||◌, List, [], ◌∷◌, ◌++◌, map}
use Rattle.std.specs.List.{list_any}
use Rattle.cedar_model.specs.Terms.{Text, EntityName}
use Rattle.cedar_model.specs.Outcomes.{text_eq, entity_eq}
use Rattle.cedar_model.specs.Settings.{is_among}
use Rattle.cedar_names.specs.declared.names.EntityType.{EntityType}
use Rattle.cedar_names.specs.declared.names.EntityUID.{EntityUID}
use Rattle.cedar_names.specs.Names.{type_text, uid_name}
use Rattle.cedar_layers.specs.declared.policies.entities.Entities.{Entities}
use Rattle.cedar_layers.specs.Stores.{entity_view}
use Rattle.cedar_lints.specs.declared.knowing.Known as declared
use Rattle.cedar_lints.specs.Listing.{Listing, IsListing}

-- which types and which entities are known
pub record Known : Type 0 where
  pub types : Text → Bool
  pub entities : EntityName → Bool

abbrev pub nothing_known : Known
nothing_known = record { types = λ t. false; entities = λ n. false }

abbrev pub with_type : (Text → Bool) → Text → Text → Bool
with_type f t u = f u || text_eq u t

abbrev pub with_entity : (EntityName → Bool) → EntityName → EntityName → Bool
with_entity f n m = f m || entity_eq m n

-- the entity is known too, and its type
abbrev pub with_known : Known → EntityName → Known
with_known k n = record { types = with_type k.types n.type_name; entities = with_entity k.entities n }

-- each of these is known too
abbrev pub with_each : Known → List EntityName → Known
with_each k [] = k
with_each k (n ∷ ns) = with_each (with_known k n) ns

-- the entities, each with its ancestors
abbrev pub names_in : Listing → List EntityName
names_in [] = []
names_in (e ∷ es) = uid_name e.0 ∷ ((entity_view e.1.now).ancestors ++ names_in es)

-- exactly the entities of the store and their ancestors are known, and the types of these
pub record IsKnownOf (s : Entities) (k : Known) : Type 0 where
  pub listing : Listing
  pub is_listing : IsListing s listing
  pub knows : k ≡ with_each nothing_known (names_in listing)

-- ---- for private clauses

abbrev pub has_type : List EntityType → Text → Bool
has_type ts t = list_any (λ u. text_eq t (type_text u)) ts

abbrev pub has_entity : List EntityUID → EntityName → Bool
has_entity us n = is_among n (map uid_name us)

abbrev pub known_view : declared.Known → Known
known_view k = record { types = has_type k.types.keys; entities = has_entity k.entities.keys }
