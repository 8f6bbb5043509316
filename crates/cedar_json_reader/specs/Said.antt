-- What a JSON value says: a restricted expression, or why there is none.
use Rattle.std.specs.Prelude.{ℕ, ◌+◌, Bool, List, [], ◌∷◌, ◌||◌, ℤ, if◌then◌else◌, map, Option, Some, None, Ok, bytes_eq, codes}
use Rattle.json.specs.Json.{Json, null, boolean, number, string, array, object, Items, no_items, item, Members, no_members, member}
use Rattle.json.specs.Find.{as_str}
use Rattle.cedar_model.specs.Terms.{Text, EntityName, Term, literal, bool_literal, long_literal, text_literal, entity_literal, unknown}
use Rattle.cedar_model.specs.Terms.{call}
use Rattle.cedar_model.specs.Terms.{set_of, record_of, terms_of}
use Rattle.cedar_model.specs.Refusals.{first_repeated}
use Rattle.cedar_expressions.specs.Records.{fields_in_order}
use Rattle.cedar_restricted.specs.Readers.{text_in}
use Rattle.cedar_json_reader.specs.declared.errors.RefusalReason.TheVariants as reasons
use Rattle.cedar_json_reader.specs.Numbers.{long_of_text}
use Rattle.cedar_json_reader.specs.Paths.{at_key, at_index}
use Rattle.cedar_json_reader.specs.Refusals.{Said, refused, under, before, made_of, and_then}
use Rattle.cedar_json_reader.specs.Shapes.{uid_shape}
use Rattle.cedar_json_reader.specs.Words.{is_name}

-- ---- leaves

abbrev pub long_said : Option ℤ → Said Term
long_said (Some n) = Ok (literal (long_literal n))
long_said None = refused reasons.NotALong

-- an entity of a type and an id
abbrev pub named : Option (Text × Text) → Said EntityName
named (Some p) = if is_name p.0 then Ok (record { type_name = p.0; id = p.1 }) else under (at_key (codes "type")) (refused reasons.NotAName)
named None = refused reasons.NotAnEntity

abbrev pub uid_said : Json → Said EntityName
uid_said j = named (uid_shape j)

abbrev pub entity_term : EntityName → Term
entity_term e = literal (entity_literal e)

abbrev pub entity_said : Json → Said Term
entity_said j = under (at_key (codes "__entity")) (made_of entity_term (uid_said j))

-- ---- calls

abbrev pub unknown_named : Option Text → Said Term
unknown_named (Some n) = Ok (unknown n None)
unknown_named None = refused reasons.NotAnUnknown

-- the unknown that the one argument names
abbrev pub unknown_said : List Term → Said Term
unknown_said [] = refused reasons.NotAnUnknown
unknown_said (t ∷ []) = unknown_named (text_in t)
unknown_said (t ∷ u ∷ ts) = refused reasons.NotAnUnknown

abbrev pub extension_call_said : Text → List Term → Said Term
extension_call_said f ts = if is_name f then Ok (call f (terms_of ts)) else under (at_key (codes "fn")) (refused reasons.NotAName)

abbrev pub called : Text → List Term → Said Term
called f ts = if bytes_eq f (codes "unknown") then unknown_said ts else extension_call_said f ts

abbrev pub called_said : Option Text → Said (List Term) → Said Term
called_said None args = refused reasons.NotACall
called_said (Some f) args = and_then (called f) args

abbrev pub one : Term → List Term
one t = t ∷ []

-- the argument at `arg`, or those at `args`
abbrev pub arguments_said : Text → Said Term → Said (List Term) → Said (List Term)
arguments_said k one_said list_said =
    if bytes_eq k (codes "arg") then made_of one (under (at_key (codes "arg")) one_said) else (
    if bytes_eq k (codes "args") then under (at_key (codes "args")) list_said else
    refused reasons.NotACall)

-- ---- sets and records

abbrev pub set_said : Said (List Term) → Said Term
set_said ts = made_of (λ us. set_of (terms_of us)) ts

-- the keys that no attribute has
abbrev pub is_reserved_key : Text → Bool
is_reserved_key k = bytes_eq k (codes "__entity") || (bytes_eq k (codes "__extn") || bytes_eq k (codes "__expr"))

abbrev pub pair_of : Text → Term → Text × Term
pair_of k t = (k, t)

abbrev pub member_said : Text → Said Term → Said (Text × Term)
member_said k t = if is_reserved_key k then under (at_key k) (refused reasons.ReservedKey) else made_of (pair_of k) (under (at_key k) t)

-- the record of pairs whose keys differ
abbrev pub unique_said : Option Text → List (Text × Term) → Said Term
unique_said None ps = Ok (record_of (fields_in_order ps))
unique_said (Some k) ps = under (at_key k) (refused reasons.RepeatedKey)

abbrev pub keys_of_pairs : List (Text × Term) → List Text
keys_of_pairs = map (λ p. p.0)

abbrev pub record_of_pairs : List (Text × Term) → Said Term
record_of_pairs ps = unique_said (first_repeated (keys_of_pairs ps)) ps

abbrev pub record_said : Said (List (Text × Term)) → Said Term
record_said ps = and_then record_of_pairs ps

-- what a key that stands alone makes of its value: an entity, a call, or a record like any other
abbrev pub sole_said : Text → Said Term → Said Term → Said Term → Said Term
sole_said k of_entity of_call of_record =
    if bytes_eq k (codes "__entity") then of_entity else (
    if bytes_eq k (codes "__extn") then under (at_key (codes "__extn")) of_call else
    of_record)

abbrev pub object_said : Members → Said Term → Said Term → Said Term
object_said no_members of_call of_record = of_record
object_said (member k j no_members) of_call of_record = sole_said k (entity_said j) of_call of_record
object_said (member k j (member l i ms)) of_call of_record = of_record

-- ---- all values

abbrev mutual
  pub said : Json → Said Term
  said null = refused reasons.Null
  said (boolean b) = Ok (literal (bool_literal b))
  said (number t) = long_said (long_of_text t)
  said (string t) = Ok (literal (text_literal t))
  said (array js) = set_said (said_items 0 js)
  said (object ms) = object_said ms (said_sole_call ms) (record_said (said_members ms))

  -- items in order, the first of this index
  pub said_items : ℕ → Items → Said (List Term)
  said_items n no_items = Ok []
  said_items n (item j js) = before (under (at_index n) (said j)) (said_items (n + 1) js)

  -- members in order
  pub said_members : Members → Said (List (Text × Term))
  said_members no_members = Ok []
  said_members (member k j ms) = before (member_said k (said j)) (said_members ms)

  -- the call that the one member holds
  pub said_sole_call : Members → Said Term
  said_sole_call no_members = refused reasons.NotACall
  said_sole_call (member k j ms) = said_call j

  -- the call of what stands at `fn`, in either order
  pub said_call : Json → Said Term
  said_call null = refused reasons.NotACall
  said_call (boolean b) = refused reasons.NotACall
  said_call (number t) = refused reasons.NotACall
  said_call (string t) = refused reasons.NotACall
  said_call (array js) = refused reasons.NotACall
  said_call (object no_members) = refused reasons.NotACall
  said_call (object (member k a no_members)) = refused reasons.NotACall
  said_call (object (member k a (member l b no_members))) =
      if bytes_eq k (codes "fn") then called_said (as_str a) (arguments_said l (said b) (said_list b)) else (
      if bytes_eq l (codes "fn") then called_said (as_str b) (arguments_said k (said a) (said_list a)) else
      refused reasons.NotACall)
  said_call (object (member k a (member l b (member m c ms)))) = refused reasons.NotACall

  -- the elements of an array
  pub said_list : Json → Said (List Term)
  said_list null = refused reasons.NotAnArray
  said_list (boolean b) = refused reasons.NotAnArray
  said_list (number t) = refused reasons.NotAnArray
  said_list (string t) = refused reasons.NotAnArray
  said_list (array js) = said_items 0 js
  said_list (object ms) = refused reasons.NotAnArray
