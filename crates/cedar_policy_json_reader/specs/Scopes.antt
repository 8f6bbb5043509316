-- The scopes of policies: the constraint that the JSON of a scope says of its variable.
use Rattle.std.specs.Prelude.{ℕ, ◌+◌, Bool, true, false, List, [], ◌∷◌, if◌then◌else◌, Option, Some, None, Ok, bytes_eq, codes}
use Rattle.std.specs.Option.{option_and_then}
use Rattle.json.specs.Json.{Json, Items, no_items, item}
use Rattle.json.specs.Find.{as_array, as_str, get}
use Rattle.cedar_model.specs.Terms.{Text, EntityName, bool_literal, entity_literal, Variable, principal, action, resource}
use Rattle.cedar_model.specs.Terms.{context, Slot, principal_slot, resource_slot, eq_operator, in_operator}
use Rattle.cedar_model.specs.Terms.{Term, literal, variable, slot, both, binary, is_of_type, set_of, terms_of}
use Rattle.cedar_policy_json_reader.specs.declared.errors.RefusalReason.TheVariants as reasons
use Rattle.cedar_policy_json_reader.specs.Leaves.{or_refused, name_said, uid_said}
use Rattle.cedar_policy_json_reader.specs.Paths.{at_key, at_index}
use Rattle.cedar_policy_json_reader.specs.Refusals.{Said, refused, under, before, both_said, made_of, and_then}
use Rattle.cedar_policy_json_reader.specs.Shapes.{Member, sole_of, member_count, missing, one_at, two_at, three_at, text_said}

-- ---- entities and slots

abbrev pub entity_term : EntityName → Term
entity_term e = literal (entity_literal e)

abbrev pub escape_in : Member → Option Json
escape_in m = if bytes_eq m.0 (codes "__entity") then Some m.1 else None

abbrev pub by_escape : Option Json → Json → Said EntityName
by_escape None j = uid_said j
by_escape (Some k) j = under (at_key (codes "__entity")) (uid_said k)

-- an entity, with or without `__entity` round its type and its id
abbrev pub plain_uid_said : Json → Said EntityName
plain_uid_said j = by_escape (option_and_then escape_in (sole_of j)) j

abbrev pub entity_said : Json → Said Term
entity_said j = made_of entity_term (plain_uid_said j)

abbrev pub entity_at : Json → Said Term
entity_at j = under (at_key (codes "entity")) (entity_said j)

-- the variable's own slot
abbrev pub slot_named : Variable → Text → Option Slot
slot_named principal t = if bytes_eq t (codes "?principal") then Some principal_slot else None
slot_named action t = None
slot_named resource t = if bytes_eq t (codes "?resource") then Some resource_slot else None
slot_named context t = None

-- a slot stands in templates alone
abbrev pub slot_said : Bool → Variable → Json → Said Term
slot_said false v j = refused reasons.SlotInPolicy
slot_said true v j = made_of slot (or_refused reasons.NotASlot (option_and_then (slot_named v) (as_str j)))

abbrev pub slot_at : Bool → Variable → Json → Said Term
slot_at is_open v j = under (at_key (codes "slot")) (slot_said is_open v j)

-- what stands beside the operator, at `slot` or at `entity`
abbrev pub target_by_slot : Bool → Variable → Option Json → Json → Said Term
target_by_slot is_open v None j = and_then (λ p. entity_at p.1) (two_at (codes "op") (codes "entity") j)
target_by_slot is_open v (Some s) j = and_then (λ p. slot_at is_open v p.1) (two_at (codes "op") (codes "slot") j)

abbrev pub target_said : Bool → Variable → Json → Said Term
target_said is_open v j = target_by_slot is_open v (get (codes "slot") j) j

-- what stands at `slot` or at `entity`, the one member
abbrev pub place_by_slot : Bool → Variable → Option Json → Json → Said Term
place_by_slot is_open v None j = and_then entity_at (one_at (codes "entity") j)
place_by_slot is_open v (Some s) j = and_then (slot_at is_open v) (one_at (codes "slot") j)

abbrev pub place_said : Bool → Variable → Json → Said Term
place_said is_open v j = place_by_slot is_open v (get (codes "slot") j) j

-- ---- constraints

-- `true`
abbrev pub truth : Term
truth = literal (bool_literal true)

abbrev pub truth_of : Json → Term
truth_of j = truth

-- entities in order, the first of this index
abbrev pub entities_from : ℕ → Items → Said (List Term)
entities_from n no_items = Ok []
entities_from n (item j js) = before (under (at_index n) (entity_said j)) (entities_from (n + 1) js)

abbrev pub entities_in : Option Items → Said (List Term)
entities_in None = refused reasons.NotAnArray
entities_in (Some js) = entities_from 0 js

abbrev pub set_of_terms : List Term → Term
set_of_terms ts = set_of (terms_of ts)

abbrev pub entities_said : Json → Said Term
entities_said j = under (at_key (codes "entities")) (made_of set_of_terms (entities_in (as_array j)))

abbrev pub inside_by_list : Bool → Variable → Option Json → Json → Said Term
inside_by_list is_open v None j = target_said is_open v j
inside_by_list is_open v (Some js) j = and_then (λ p. entities_said p.1) (two_at (codes "op") (codes "entities") j)

-- an entity or a slot, or beside the action a list of entities
abbrev pub inside_said : Bool → Variable → Json → Said Term
inside_said is_open principal j = target_said is_open principal j
inside_said is_open action j = inside_by_list is_open action (get (codes "entities") j) j
inside_said is_open resource j = target_said is_open resource j
inside_said is_open context j = target_said is_open context j

abbrev pub type_at : Json → Said Text
type_at j = under (at_key (codes "entity_type")) (name_said j)

abbrev pub typed : Variable → Text → Term
typed v n = is_of_type (variable v) n

abbrev pub typed_inside : Variable → Text × Term → Term
typed_inside v q = both (typed v q.0) (binary in_operator (variable v) q.1)

abbrev pub type_and_place : Bool → Variable → Json → Json → Said (Text × Term)
type_and_place is_open v ty inside = both_said (type_at ty) (under (at_key (codes "in")) (place_said is_open v inside))

abbrev pub type_and_place_said : Bool → Variable → Json × Json × Json → Said Term
type_and_place_said is_open v p = made_of (typed_inside v) (type_and_place is_open v p.1 p.2)

abbrev pub is_by_place : Bool → Variable → Option Json → Json → Said Term
is_by_place is_open v None j = and_then (λ p. made_of (typed v) (type_at p.1)) (two_at (codes "op") (codes "entity_type") j)
is_by_place is_open v (Some i) j =
    and_then (type_and_place_said is_open v) (three_at (codes "op") (codes "entity_type") (codes "in") j)

abbrev pub no_operator : Said Term
no_operator = under (at_key (codes "op")) (refused reasons.UnknownOperator)

-- a test of the type, which the action has none of
abbrev pub is_scope_said : Bool → Variable → Json → Said Term
is_scope_said is_open principal j = is_by_place is_open principal (get (codes "in") j) j
is_scope_said is_open action j = no_operator
is_scope_said is_open resource j = is_by_place is_open resource (get (codes "in") j) j
is_scope_said is_open context j = no_operator

abbrev pub constraint_said : Bool → Variable → Json → Text → Said Term
constraint_said is_open v j op =
    if bytes_eq op (codes "All") then made_of truth_of (one_at (codes "op") j) else (
    if bytes_eq op (codes "==") then made_of (binary eq_operator (variable v)) (target_said is_open v j) else (
    if bytes_eq op (codes "in") then made_of (binary in_operator (variable v)) (inside_said is_open v j) else (
    if bytes_eq op (codes "is") then is_scope_said is_open v j else
    no_operator)))

abbrev pub operator_in : Option Json → Said Text
operator_in None = missing (codes "op")
operator_in (Some j) = under (at_key (codes "op")) (text_said j)

abbrev pub operator_by_count : Option ℕ → Json → Said Text
operator_by_count None j = refused reasons.NotAnObject
operator_by_count (Some n) j = operator_in (get (codes "op") j)

-- the constraint on this variable; slots may stand in it where it is a template's
abbrev pub scope_said : Bool → Variable → Json → Said Term
scope_said is_open v j = and_then (constraint_said is_open v j) (operator_by_count (member_count j) j)
