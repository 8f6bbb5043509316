-- Where an object has a key twice: the first such key on the way through a value, and the way to it.
use Rattle.std.specs.Prelude.{ℕ, ◌+◌, Option, Some, None, Ok}
use Rattle.json.specs.Json.{Json, null, boolean, number, string, array, object, Items, no_items, item, Members, no_members, member}
use Rattle.json.specs.Strict.{keys}
use Rattle.cedar_model.specs.Terms.{Text}
use Rattle.cedar_model.specs.Refusals.{first_repeated}
use Rattle.cedar_policy_json_reader.specs.declared.errors.RefusalReason.TheVariants as reasons
use Rattle.cedar_policy_json_reader.specs.Paths.{at_key, at_index}
use Rattle.cedar_policy_json_reader.specs.Refusals.{Said, refused_there, under, and_then}

-- nothing, or the refusal of this key
abbrev pub key_said : Option Text → Said (Unit {0})
key_said None = Ok tt
key_said (Some k) = refused_there (at_key k) reasons.RepeatedKey

-- of an object first its own keys, and then what stands at them, in order
abbrev mutual
  pub keys_said : Json → Said (Unit {0})
  keys_said null = Ok tt
  keys_said (boolean b) = Ok tt
  keys_said (number s) = Ok tt
  keys_said (string s) = Ok tt
  keys_said (array js) = items_said 0 js
  keys_said (object ms) = and_then (λ u. members_said ms) (key_said (first_repeated (keys ms)))

  -- of items in order, the first of this index
  pub items_said : ℕ → Items → Said (Unit {0})
  items_said n no_items = Ok tt
  items_said n (item j js) = and_then (λ u. items_said (n + 1) js) (under (at_index n) (keys_said j))

  pub members_said : Members → Said (Unit {0})
  members_said no_members = Ok tt
  members_said (member k j ms) = and_then (λ u. members_said ms) (under (at_key k) (keys_said j))
