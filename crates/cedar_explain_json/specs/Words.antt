-- What policies, parts and operands came to, in JSON.
use Rattle.std.specs.Prelude.{Bool, true, false, List, [], ◌∷◌, ◌++◌, codes}
use Rattle.json.specs.Json.{Json, string}
use Rattle.cedar_model.specs.Terms.{Text}
use Rattle.cedar_model.specs.Values.{Represented, expression_of}
use Rattle.cedar_model.specs.Agreement.{no_slots}
use Rattle.cedar_model.specs.Outcomes.{entity_does_not_exist, entity_attribute_does_not_exist}
use Rattle.cedar_model.specs.Outcomes.{record_attribute_does_not_exist, function_does_not_exist, type_error}
use Rattle.cedar_model.specs.Outcomes.{wrong_number_of_arguments, integer_overflow, unlinked_slot, function_failed}
use Rattle.cedar_model.specs.Failures.{FailureKind, of_meaning, of_residual, of_limit, of_memory, failure_kind}
use Rattle.cedar_model.specs.Failures.{value, residual, Answer, answers, fails}
use Rattle.cedar_text_printer.specs.Texts.{written}
use Rattle.cedar_explain.specs.Outcomes.{Came, came_true, came_false, came_other, came_failing, answered}

-- ---- errors

abbrev pub kind_word : FailureKind → Text
kind_word (of_meaning entity_does_not_exist) = codes "entityDoesNotExist"
kind_word (of_meaning entity_attribute_does_not_exist) = codes "entityAttrDoesNotExist"
kind_word (of_meaning record_attribute_does_not_exist) = codes "recordAttrDoesNotExist"
kind_word (of_meaning function_does_not_exist) = codes "failedExtensionFunctionLookup"
kind_word (of_meaning type_error) = codes "typeError"
kind_word (of_meaning wrong_number_of_arguments) = codes "wrongNumArguments"
kind_word (of_meaning integer_overflow) = codes "integerOverflow"
kind_word (of_meaning unlinked_slot) = codes "unlinkedSlot"
kind_word (of_meaning function_failed) = codes "failedExtensionFunctionExecution"
kind_word of_residual = codes "nonValue"
kind_word of_limit = codes "recursionLimit"
kind_word of_memory = codes "memory"

abbrev pub outcome : Text → Text × Json
outcome word = (codes "outcome", string word)

-- an error of this kind
abbrev pub error_outcome : FailureKind → List (Text × Json)
error_outcome k = outcome (codes "error") ∷ (codes "error", string (kind_word k)) ∷ []

-- ---- policies

abbrev pub policy_outcome : Came → List (Text × Json)
policy_outcome came_true = outcome (codes "satisfied") ∷ []
policy_outcome came_false = outcome (codes "unsatisfied") ∷ []
policy_outcome came_other = outcome (codes "error") ∷ []
policy_outcome (came_failing k) = error_outcome k

-- ---- parts

-- a value as Cedar's text
abbrev pub value_member : Represented → Text × Json
value_member v = (codes "value", string (written no_slots (expression_of v)))

-- unless values are left out
abbrev pub value_told : Bool → Represented → List (Text × Json)
value_told true v = value_member v ∷ []
value_told false v = []

abbrev pub value_if : Bool → Answer → List (Text × Json)
value_if has_values (answers (value v)) = value_told has_values v
value_if has_values (answers (residual t)) = []
value_if has_values (fails f) = []

-- a value that is no boolean
abbrev pub other_outcome : Bool → Answer → List (Text × Json)
other_outcome has_values a = outcome (codes "otherValue") ∷ value_if has_values a

abbrev pub came_outcome : Came → List (Text × Json) → List (Text × Json)
came_outcome came_true other = outcome (codes "true") ∷ []
came_outcome came_false other = outcome (codes "false") ∷ []
came_outcome came_other other = other
came_outcome (came_failing k) other = error_outcome k

-- true, false, another value, or an error
abbrev pub part_outcome : Bool → Answer → List (Text × Json)
part_outcome has_values a = came_outcome (answered a) (other_outcome has_values a)

-- ---- operands

-- the value, or the kind of the error
abbrev pub answer_member : Answer → Text × Json
answer_member (answers (value v)) = value_member v
answer_member (answers (residual t)) = (codes "error", string (kind_word of_residual))
answer_member (fails f) = (codes "error", string (kind_word (failure_kind f)))
