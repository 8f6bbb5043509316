-- What an evaluation answers: a value or a residual expression, or an error with its fields.
use Rattle.std.specs.Prelude.{ℕ, Bool, List, codes}
use Rattle.cedar_model.specs.Terms.{Text, EntityName, bool_literal, Slot, ValueType, entity_type, UnaryOperator}
use Rattle.cedar_model.specs.Terms.{BinaryOperator, Term}
use Rattle.cedar_model.specs.Values.{AbstractValue, Represented, plain_represented, expression_of}
use Rattle.cedar_model.specs.Outcomes.{ErrorKind, entity_does_not_exist, entity_attribute_does_not_exist}
use Rattle.cedar_model.specs.Outcomes.{record_attribute_does_not_exist, function_does_not_exist, type_error}
use Rattle.cedar_model.specs.Outcomes.{wrong_number_of_arguments, integer_overflow, unlinked_slot, function_failed}
use Rattle.cedar_model.specs.Outcomes.{value_type}

-- an error with its fields. Of an attribute or tag that is missing: the entity, the name, whether it is an attribute,
-- whether the entity has one of the other kind by that name, the first five names that are there, and how many there
-- are. Out of memory inside the error of a look-up is an error of its own, of the kind of the look-up, and no rule
-- answers it
pub data Failure : Type 0 where
  entity_is_missing : EntityName → Failure
  entity_attribute_is_missing : EntityName → Text → Bool → Bool → List Text → ℕ → Failure
  record_attribute_is_missing : Text → List Text → ℕ → Failure
  function_is_missing : Text → Failure
  type_is_wrong : ValueType → List ValueType → ValueType → Failure
  arguments_are_miscounted : Text → ℕ → ℕ → Failure
  binary_overflow : BinaryOperator → Represented → Represented → Failure
  unary_overflow : UnaryOperator → Represented → Failure
  slot_is_unlinked : Slot → Failure
  function_has_failed : Text → Text → Failure
  residual_is_left : Term → Failure
  recursion_limit : Failure
  out_of_memory : Failure
  memory_is_wrapped : Failure

-- the kind of an error: one of the nine that a meaning can have, or one that only an evaluator answers
pub data FailureKind : Type 0 where
  of_meaning : ErrorKind → FailureKind
  of_residual : FailureKind
  of_limit : FailureKind
  of_memory : FailureKind

unfoldable pub failure_kind : Failure → FailureKind
failure_kind (entity_is_missing e) = of_meaning entity_does_not_exist
failure_kind (entity_attribute_is_missing e k was other available total) = of_meaning entity_attribute_does_not_exist
failure_kind (record_attribute_is_missing k available total) = of_meaning record_attribute_does_not_exist
failure_kind (function_is_missing f) = of_meaning function_does_not_exist
failure_kind (type_is_wrong expected others actual) = of_meaning type_error
failure_kind (arguments_are_miscounted f expected actual) = of_meaning wrong_number_of_arguments
failure_kind (binary_overflow op v w) = of_meaning integer_overflow
failure_kind (unary_overflow op v) = of_meaning integer_overflow
failure_kind (slot_is_unlinked s) = of_meaning unlinked_slot
failure_kind (function_has_failed extension message) = of_meaning function_failed
failure_kind (residual_is_left t) = of_residual
failure_kind recursion_limit = of_limit
failure_kind out_of_memory = of_memory
failure_kind memory_is_wrapped = of_meaning function_does_not_exist

-- a value, or the expression that is left
pub data PartialValue : Type 0 where
  value : Represented → PartialValue
  residual : Term → PartialValue

pub data Answer : Type 0 where
  answers : PartialValue → Answer
  fails : Failure → Answer

abbrev pub answers_value : Represented → Answer
answers_value v = answers (value v)

abbrev pub answers_residual : Term → Answer
answers_residual t = answers (residual t)

abbrev pub answers_bool : Bool → Answer
answers_bool b = answers (value (plain_represented (bool_literal b)))

-- the recursion limit was met
abbrev pub limit : Answer
limit = fails recursion_limit

-- the answer as an expression
unfoldable pub part_expression : PartialValue → Term
part_expression (value v) = expression_of v
part_expression (residual t) = t

-- an expected entity, whatever its type
abbrev pub any_entity : ValueType
any_entity = entity_type (codes "any_entity_type")

-- a value of another type than expected
abbrev pub wrong_type : ValueType → List ValueType → AbstractValue → Failure
wrong_type expected others v = type_is_wrong expected others (value_type v)
