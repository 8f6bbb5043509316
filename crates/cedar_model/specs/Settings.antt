-- What an evaluator is given: a request, a store, a map of unknowns, slots and extensions, each of them perhaps in
-- part.
use Rattle.std.specs.Prelude.{Bool, true, false, cond, ◌||◌, List, [], ◌∷◌, ◌++◌, map, Option, Some, None, codes}
use Rattle.cedar_model.specs.Terms.{Text, EntityName, entity_literal, Variable, principal, action, resource, context}
use Rattle.cedar_model.specs.Terms.{ValueType, entity_type, Term, unknown, record_of, Fields}
use Rattle.cedar_model.specs.Values.{Represented, plain_represented, record_represented, RepresentedFields}
use Rattle.cedar_model.specs.Outcomes.{text_eq, entity_eq, escaped}
use Rattle.cedar_model.specs.World.{Slots, Extensions}
use Rattle.cedar_model.specs.Failures.{PartialValue, value, residual}

-- a principal, action or resource: an entity, or unknown, perhaps with its type
pub data Entry : Type 0 where
  known_entry : EntityName → Entry
  unknown_entry : Option Text → Entry

pub data ContextPart : Type 0 where
  absent_context : ContextPart
  known_context : RepresentedFields → ContextPart
  residual_context : Fields → ContextPart

pub record RequestPart : Type 0 where
  pub principal_entry : Entry
  pub action_entry : Entry
  pub resource_entry : Entry
  pub context_part : ContextPart

-- an entity of a store: its attributes and tags in the byte order of their names, and its ancestors
pub record StoredEntity : Type 0 where
  pub attributes : List (Text × PartialValue)
  pub tags : List (Text × PartialValue)
  pub ancestors : List EntityName

-- a concrete store has all entities; a partial one may lack some
pub record Store : Type 0 where
  pub entity : EntityName → Option StoredEntity
  pub is_partial : Bool

-- what a stored residual answers where an attribute, a tag or an extended `has` reads it: itself, or what it is
-- evaluated to
pub data Resolution : Type 0 where
  shallow : Resolution
  deep : Resolution

pub record Setting : Type 0 where
  pub request : RequestPart
  pub store : Store
  pub map : Text → Option Represented
  pub slots : Slots
  pub extensions : Extensions
  pub resolution : Resolution

-- ---- what a variable answers

unfoldable pub type_annotation : Option Text → Option ValueType
type_annotation None = None
type_annotation (Some t) = Some (entity_type t)

-- an unknown entry is the unknown of the variable's name
unfoldable pub entry_part : Entry → Text → PartialValue
entry_part (known_entry e) name = value (plain_represented (entity_literal e))
entry_part (unknown_entry t) name = residual (unknown name (type_annotation t))

unfoldable pub context_value : ContextPart → PartialValue
context_value absent_context = residual (unknown (codes "context") None)
context_value (known_context fs) = value (record_represented fs)
context_value (residual_context fs) = residual (record_of fs)

unfoldable pub variable_part : RequestPart → Variable → PartialValue
variable_part r principal = entry_part r.principal_entry (codes "principal")
variable_part r action = entry_part r.action_entry (codes "action")
variable_part r resource = entry_part r.resource_entry (codes "resource")
variable_part r context = context_value r.context_part

-- ---- look-ups

-- an entity's name as it prints: the type, two colons, and the id in quotes
abbrev pub printed_entity : EntityName → Text
printed_entity e = e.type_name ++ (codes "::\"" ++ (escaped e.id ++ codes "\""))

-- the unknown that stands for an entity which a partial store lacks
abbrev pub missing_entity : EntityName → Term
missing_entity e = unknown (printed_entity e) (Some (entity_type e.type_name))

-- the part under a name
unfoldable pub part_at : {A : Type 0} → Text → List (Text × A) → Option A
part_at k [] = None
part_at k (p ∷ ps) = cond (text_eq k p.0) (Some p.1) (part_at k ps)

unfoldable pub is_among : EntityName → List EntityName → Bool
is_among e [] = false
is_among e (d ∷ ds) = entity_eq e d || is_among e ds

-- the names of a list of parts
abbrev pub names_of : {A : Type 0} → List (Text × A) → List Text
names_of ps = map (λ p. p.0) ps

-- what a store answers of an entity: its facts, that there is none, or an unknown
pub data Found : Type 0 where
  found : StoredEntity → Found
  not_there : Found
  not_known : Found

unfoldable pub found_in : Option StoredEntity → Bool → Found
found_in (Some d) is_partial = found d
found_in None false = not_there
found_in None true = not_known

abbrev pub look_up : Store → EntityName → Found
look_up s e = found_in (s.entity e) s.is_partial
