-- A world: what every unknown, entity and context is. It may hold more than any request or store says. In Cedar's
-- documentation: the pages on requests, contexts and entities.
use Rattle.std.specs.Prelude.{ℕ, Bool, List, Option}
use Rattle.cedar_model.specs.Terms.{Text, EntityName, entity_literal, Variable, principal, action, resource, context}
use Rattle.cedar_model.specs.Terms.{Slot, ValueType}
use Rattle.cedar_model.specs.Values.{AbstractValue, plain, record_value, AbstractFields}
use Rattle.cedar_model.specs.Outcomes.{ErrorKind}

-- an entity of a world: its ancestors, attributes and tags
pub record WorldEntity : Type 0 where
  pub is_ancestor : EntityName → Bool
  pub attribute : Text → Option AbstractValue
  pub tag : Text → Option AbstractValue

-- `sigma` is the value that each unknown stands for
pub record World : Type 0 where
  pub principal_entity : EntityName
  pub action_entity : EntityName
  pub resource_entity : EntityName
  pub context_record : AbstractFields
  pub store : EntityName → Option WorldEntity
  pub sigma : Text → AbstractValue

-- the value of a variable
unfoldable pub variable_value : World → Variable → AbstractValue
variable_value w principal = plain (entity_literal w.principal_entity)
variable_value w action = plain (entity_literal w.action_entity)
variable_value w resource = plain (entity_literal w.resource_entity)
variable_value w context = record_value w.context_record

-- the entities that stand in a template's slots
abbrev pub Slots : Type 0
Slots = Slot → Option EntityName

-- what a function answers: a value, an error, or an unknown with its annotation
pub data FunctionAnswer : Type 0 where
  function_gives : AbstractValue → FunctionAnswer
  function_errs : ErrorKind → FunctionAnswer
  function_asks : Text → Option ValueType → FunctionAnswer

-- the extension functions by name, each with its number of arguments, and the types whose values `<` compares
pub record Extensions : Type 0 where
  pub arity : Text → Option ℕ
  pub overloaded : List Text

-- what each function answers to values
abbrev pub Functions : Type 0
Functions = Text → List AbstractValue → FunctionAnswer
