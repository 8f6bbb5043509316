-- The attributes and tags of entities that JSON says are restricted expressions.
use Rattle.std.specs.Prelude.{ℕ, ◌+◌, List, [], ◌∷◌, Option, Some, None, Ok, Err, codes}
use Rattle.json.specs.Json.{Json, Items, no_items, item, Members}
use Rattle.json.specs.Find.{as_object, as_array, get}
use Rattle.cedar_model.specs.Terms.{Text, EntityName, Term}
use Rattle.cedar_model.specs.Settings.{is_among}
use Rattle.cedar_json_reader.specs.Refusals.{Said, under}
use Rattle.cedar_json_reader.specs.SaidEntities as said
use Rattle.cedar_json_reader.specs.SaidEntities.{SaidEntity}
use Rattle.cedar_faithful.proofs.Restricted.{SaysSuch, EachSuch, under_such, chosen, then_such, made_such}
use Rattle.cedar_faithful.proofs.Restricted.{IsRestrictedPair, members_restricted}

abbrev PairsRestricted : List (Text × Term) → Type 0
PairsRestricted ps = EachSuch IsRestrictedPair ps

-- the attributes and the tags of an entity
abbrev pub IsRestrictedEntity : SaidEntity → Type 0
IsRestrictedEntity e = PairsRestricted e.attributes × PairsRestricted e.tags

-- whatever is said
abbrev Any : {T : Type 0} → T → Type 0
Any t = Unit {0}

any_said : {T : Type 0} (s : Said T) → SaysSuch Any s
any_said (Ok t) = tt
any_said (Err r) = tt

pairs_in_restricted : (o : Option Members) → SaysSuch PairsRestricted (said.pairs_in o)
pairs_in_restricted None = tt
pairs_in_restricted (Some ms) = members_restricted ms

member_says_restricted : (k : Text) (o : Option Json) → SaysSuch PairsRestricted (said.member_says k said.pairs_of o)
member_says_restricted k None = tt
member_says_restricted k (Some j) = under_such PairsRestricted _ (said.pairs_of j) (pairs_in_restricted (as_object j))

attributes_restricted : (j : Json) → SaysSuch PairsRestricted (said.attributes_of j)
attributes_restricted j = member_says_restricted (codes "attrs") (get (codes "attrs") j)

tags_in_restricted : (o : Option Json) → SaysSuch PairsRestricted (said.tags_in o)
tags_in_restricted None = tt
tags_in_restricted (Some j) = under_such PairsRestricted _ (said.pairs_of j) (pairs_in_restricted (as_object j))

tags_restricted : (j : Json) → SaysSuch PairsRestricted (said.tags_of j)
tags_restricted j = tags_in_restricted (get (codes "tags") j)

whole_restricted : (j : Json) → SaysSuch IsRestrictedEntity (said.whole_entity j)
whole_restricted j =
    then_such Any IsRestrictedEntity (λ u. said.with_attributes u j) (said.uid_at (codes "uid") j)
    (any_said (said.uid_at (codes "uid") j))
    (λ u h. then_such PairsRestricted IsRestrictedEntity (λ attributes. said.with_parents u attributes j)
    (said.attributes_of j) (attributes_restricted j)
    (λ attributes k. then_such Any IsRestrictedEntity (λ parents. said.with_tags u attributes parents j)
    (said.parents_of j) (any_said (said.parents_of j))
    (λ parents l. made_such PairsRestricted IsRestrictedEntity
    (λ tags. record { uid = u; attributes = attributes; parents = parents; tags = tags }) (said.tags_of j)
    (tags_restricted j) (λ tags i. (k, i)))))

if_known_restricted : (o : Option Text) (s : Said SaidEntity) → SaysSuch IsRestrictedEntity s
    → SaysSuch IsRestrictedEntity (said.if_known o s)
if_known_restricted None s h = h
if_known_restricted (Some k) s h = tt

object_restricted : (o : Option Members) (s : Said SaidEntity) → SaysSuch IsRestrictedEntity s
    → SaysSuch IsRestrictedEntity (said.object_with said.is_entity_key o s)
object_restricted None s h = tt
object_restricted (Some ms) s h = if_known_restricted (said.first_other said.is_entity_key ms) s h

entity_restricted : (j : Json) → SaysSuch IsRestrictedEntity (said.entity_said j)
entity_restricted j = object_restricted (as_object j) (said.whole_entity j) (whole_restricted j)

new_restricted : (seen : List EntityName) (j : Json) → SaysSuch IsRestrictedEntity (said.new_entity seen j)
new_restricted seen j =
    then_such IsRestrictedEntity IsRestrictedEntity (said.if_new seen) (said.entity_said j) (entity_restricted j)
    (λ e h. chosen IsRestrictedEntity (is_among e.uid seen) _ (Ok e) tt h)

from_restricted : (seen : List EntityName) (n : ℕ) (js : Items)
    → SaysSuch (EachSuch IsRestrictedEntity) (said.entities_from seen n js)
from_restricted seen n no_items = tt
from_restricted seen n (item j js) =
    then_such IsRestrictedEntity (EachSuch IsRestrictedEntity) _ (under _ (said.new_entity seen j))
    (under_such IsRestrictedEntity _ (said.new_entity seen j) (new_restricted seen j))
    (λ e h. made_such (EachSuch IsRestrictedEntity) (EachSuch IsRestrictedEntity) (λ es. e ∷ es)
    (said.entities_from (e.uid ∷ seen) (n + 1) js) (from_restricted (e.uid ∷ seen) (n + 1) js) (λ es k. (h, k)))

in_restricted : (o : Option Items) → SaysSuch (EachSuch IsRestrictedEntity) (said.entities_in o)
in_restricted None = tt
in_restricted (Some js) = from_restricted [] 0 js

pub entities_restricted : (j : Json) → SaysSuch (EachSuch IsRestrictedEntity) (said.entities_said j)
entities_restricted j = in_restricted (as_array j)
