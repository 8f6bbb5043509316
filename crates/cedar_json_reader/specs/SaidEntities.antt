-- What the JSON of entities says.
use Rattle.std.specs.Prelude.{ℕ, ◌+◌, Bool, List, [], ◌∷◌, ◌||◌, if◌then◌else◌, Option, Some, None, Ok, bytes_eq, codes}
use Rattle.std.specs.Option.{option_and_then}
use Rattle.json.specs.Json.{Json, Items, no_items, item, Members, no_members, member}
use Rattle.json.specs.Find.{as_object, as_array, get}
use Rattle.cedar_model.specs.Terms.{Text, EntityName, Term}
use Rattle.cedar_model.specs.Settings.{is_among}
use Rattle.cedar_json_reader.specs.declared.errors.RefusalReason.TheVariants as reasons
use Rattle.cedar_json_reader.specs.Paths.{at_key, at_index}
use Rattle.cedar_json_reader.specs.Refusals.{Said, refused, under, before, made_of, and_then}
use Rattle.cedar_json_reader.specs.Said.{uid_said, said_members}
use Rattle.cedar_json_reader.specs.Shapes.{Member, sole}

-- an entity, of which nothing is evaluated
pub record SaidEntity : Type 0 where
  pub uid : EntityName
  pub attributes : List (Text × Term)
  pub parents : List EntityName
  pub tags : List (Text × Term)

-- ---- uids

abbrev pub escaped_in : Member → Option Json
escaped_in m = if bytes_eq m.0 (codes "__entity") then Some m.1 else None

-- what stands at `__entity`, where it stands alone
abbrev pub entity_escape : Json → Option Json
entity_escape j = option_and_then escaped_in (option_and_then sole (as_object j))

abbrev pub from_escaped : Option Json → Said EntityName → Said EntityName
from_escaped None plain = plain
from_escaped (Some j) plain = under (at_key (codes "__entity")) (uid_said j)

-- an entity, with or without `__entity` round its type and its id
abbrev pub plain_uid_said : Json → Said EntityName
plain_uid_said j = from_escaped (entity_escape j) (uid_said j)

-- what the member of this key says, which must be there
abbrev pub member_says : {T : Type 0} → Text → (Json → Said T) → Option Json → Said T
member_says k says None = under (at_key k) (refused reasons.MissingMember)
member_says k says (Some j) = under (at_key k) (says j)

abbrev pub uid_at : Text → Json → Said EntityName
uid_at k j = member_says k plain_uid_said (get k j)

-- ---- attributes, tags and parents

abbrev pub pairs_in : Option Members → Said (List (Text × Term))
pairs_in None = refused reasons.NotAnObject
pairs_in (Some ms) = said_members ms

-- the members of an object with what they say
abbrev pub pairs_of : Json → Said (List (Text × Term))
pairs_of j = pairs_in (as_object j)

abbrev pub attributes_of : Json → Said (List (Text × Term))
attributes_of j = member_says (codes "attrs") pairs_of (get (codes "attrs") j)

-- none where there is no such member
abbrev pub tags_in : Option Json → Said (List (Text × Term))
tags_in None = Ok []
tags_in (Some j) = under (at_key (codes "tags")) (pairs_of j)

abbrev pub tags_of : Json → Said (List (Text × Term))
tags_of j = tags_in (get (codes "tags") j)

-- uids in order, the first of this index
abbrev pub uids_from : ℕ → Items → Said (List EntityName)
uids_from n no_items = Ok []
uids_from n (item j js) = before (under (at_index n) (plain_uid_said j)) (uids_from (n + 1) js)

abbrev pub uids_in : Option Items → Said (List EntityName)
uids_in None = refused reasons.NotAnArray
uids_in (Some js) = uids_from 0 js

abbrev pub uids_of : Json → Said (List EntityName)
uids_of j = uids_in (as_array j)

abbrev pub parents_of : Json → Said (List EntityName)
parents_of j = member_says (codes "parents") uids_of (get (codes "parents") j)

-- ---- one entity

abbrev pub is_entity_key : Text → Bool
is_entity_key k = bytes_eq k (codes "uid") || (bytes_eq k (codes "attrs") || (bytes_eq k (codes "parents") || bytes_eq k (codes "tags")))

-- the first key that is none of these
abbrev pub first_other : (Text → Bool) → Members → Option Text
first_other known no_members = None
first_other known (member k j ms) = if known k then first_other known ms else Some k

abbrev pub with_tags : EntityName → List (Text × Term) → List EntityName → Json → Said SaidEntity
with_tags u attributes parents j = made_of (λ tags. record { uid = u; attributes = attributes; parents = parents; tags = tags }) (tags_of j)

abbrev pub with_parents : EntityName → List (Text × Term) → Json → Said SaidEntity
with_parents u attributes j = and_then (λ parents. with_tags u attributes parents j) (parents_of j)

abbrev pub with_attributes : EntityName → Json → Said SaidEntity
with_attributes u j = and_then (λ attributes. with_parents u attributes j) (attributes_of j)

-- its uid, its attributes, its parents and its tags, in this order
abbrev pub whole_entity : Json → Said SaidEntity
whole_entity j = and_then (λ u. with_attributes u j) (uid_at (codes "uid") j)

abbrev pub if_known : {T : Type 0} → Option Text → Said T → Said T
if_known None s = s
if_known (Some k) s = under (at_key k) (refused reasons.UnexpectedMember)

-- an object without other members
abbrev pub object_with : {T : Type 0} → (Text → Bool) → Option Members → Said T → Said T
object_with known None s = refused reasons.NotAnObject
object_with known (Some ms) s = if_known (first_other known ms) s

abbrev pub entity_said : Json → Said SaidEntity
entity_said j = object_with is_entity_key (as_object j) (whole_entity j)

-- ---- entities

-- the entity, if it is none of those before
abbrev pub if_new : List EntityName → SaidEntity → Said SaidEntity
if_new seen e = if is_among e.uid seen then under (at_key (codes "uid")) (refused reasons.RepeatedEntity) else Ok e

abbrev pub new_entity : List EntityName → Json → Said SaidEntity
new_entity seen j = and_then (if_new seen) (entity_said j)

-- entities in order, the first of this index, behind those that were seen
abbrev pub entities_from : List EntityName → ℕ → Items → Said (List SaidEntity)
entities_from seen n no_items = Ok []
entities_from seen n (item j js) = and_then (λ e. made_of (λ es. e ∷ es) (entities_from (e.uid ∷ seen) (n + 1) js)) (under (at_index n) (new_entity seen j))

abbrev pub entities_in : Option Items → Said (List SaidEntity)
entities_in None = refused reasons.NotAnArray
entities_in (Some js) = entities_from [] 0 js

-- the entities of an array, in order, of which each stands there once
abbrev pub entities_said : Json → Said (List SaidEntity)
entities_said j = entities_in (as_array j)
