-- Explanations as plain data.
use Rattle.std.specs.Prelude.{List, map, Option}
use Rattle.cedar_model.specs.Outcomes.{entity_does_not_exist, entity_attribute_does_not_exist}
use Rattle.cedar_model.specs.Outcomes.{record_attribute_does_not_exist, function_does_not_exist, type_error}
use Rattle.cedar_model.specs.Outcomes.{wrong_number_of_arguments, integer_overflow, unlinked_slot, function_failed}
use Rattle.cedar_model.specs.Failures.{FailureKind, of_meaning, of_residual, of_limit, of_memory}
use Rattle.cedar_names.specs.declared.names.Loc.{Loc}
use Rattle.cedar_expressions.specs.View.{view, expr_loc}
use Rattle.cedar_errors.specs.Answers.{value_answer}
use Rattle.cedar_explain.specs.declared.outcomes.ErrorKind as kinds
use Rattle.cedar_explain.specs.declared.outcomes.ErrorKind.TheVariants.{EntityDoesNotExist, EntityAttrDoesNotExist}
use Rattle.cedar_explain.specs.declared.outcomes.ErrorKind.TheVariants.{RecordAttrDoesNotExist, FailedExtensionFunctionLookup}
use Rattle.cedar_explain.specs.declared.outcomes.ErrorKind.TheVariants.{TypeError, WrongNumArguments, IntegerOverflow}
use Rattle.cedar_explain.specs.declared.outcomes.ErrorKind.TheVariants.{UnlinkedSlot, FailedExtensionFunctionExecution}
use Rattle.cedar_explain.specs.declared.outcomes.ErrorKind.TheVariants.{NonValue, RecursionLimit, Memory}
use Rattle.cedar_explain.specs.declared.outcomes.PartOutcome.{PartOutcome}
use Rattle.cedar_explain.specs.declared.outcomes.PartOutcome.TheVariants.{True, False, OtherValue}
use Rattle.cedar_explain.specs.declared.outcomes.PartOutcome.TheVariants as parts
use Rattle.cedar_explain.specs.declared.outcomes.PolicyOutcome.{PolicyOutcome}
use Rattle.cedar_explain.specs.declared.outcomes.PolicyOutcome.TheVariants.{Satisfied, Unsatisfied}
use Rattle.cedar_explain.specs.declared.outcomes.PolicyOutcome.TheVariants as policies
use Rattle.cedar_explain.specs.declared.parts.Part.{Part}
use Rattle.cedar_explain.specs.declared.explanations.Explanation.{Explanation}
use Rattle.cedar_explain.specs.Outcomes.{Came, came_true, came_false, came_other, came_failing}
use Rattle.cedar_explain.specs.Explained.{Told}

abbrev pub kind_view : kinds.ErrorKind → FailureKind
kind_view EntityDoesNotExist = of_meaning entity_does_not_exist
kind_view EntityAttrDoesNotExist = of_meaning entity_attribute_does_not_exist
kind_view RecordAttrDoesNotExist = of_meaning record_attribute_does_not_exist
kind_view FailedExtensionFunctionLookup = of_meaning function_does_not_exist
kind_view TypeError = of_meaning type_error
kind_view WrongNumArguments = of_meaning wrong_number_of_arguments
kind_view IntegerOverflow = of_meaning integer_overflow
kind_view UnlinkedSlot = of_meaning unlinked_slot
kind_view FailedExtensionFunctionExecution = of_meaning function_failed
kind_view NonValue = of_residual
kind_view RecursionLimit = of_limit
kind_view Memory = of_memory

abbrev pub part_came : PartOutcome → Came
part_came True = came_true
part_came False = came_false
part_came OtherValue = came_other
part_came (parts.Error k) = came_failing (kind_view k)

abbrev pub policy_came : PolicyOutcome → Came
policy_came Satisfied = came_true
policy_came Unsatisfied = came_false
policy_came (policies.Error k) = came_failing (kind_view k)

abbrev pub part_told : Part → Told
part_told p = record { term = view p.expression; answer = value_answer p.answer }

abbrev pub parts_told : List Part → List Told
parts_told ps = map part_told ps

-- where the part stands in the text
abbrev pub part_place : Part → Option Loc
part_place p = expr_loc p.expression

-- the parts of an explanation
abbrev pub explained_parts : Explanation → List Part
explained_parts x = x.parts.items

-- what it names of them
abbrev pub named_parts : Explanation → List Told
named_parts x = parts_told x.parts.items

-- what it says that the policy came to
abbrev pub told_outcome : Explanation → Came
told_outcome x = policy_came x.outcome
