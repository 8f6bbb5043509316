-- What policies and parts came to, as it is told.
use Rattle.std.specs.Prelude.{◌++◌, Bool, true, false, codes}
use Rattle.cedar_model.specs.Terms.{Text, Term}
use Rattle.cedar_model.specs.Values.{Represented, expression_of}
use Rattle.cedar_model.specs.Agreement.{no_slots}
use Rattle.cedar_model.specs.Outcomes.{entity_does_not_exist, entity_attribute_does_not_exist}
use Rattle.cedar_model.specs.Outcomes.{record_attribute_does_not_exist, function_does_not_exist, type_error}
use Rattle.cedar_model.specs.Outcomes.{wrong_number_of_arguments, integer_overflow, unlinked_slot, function_failed}
use Rattle.cedar_model.specs.Failures.{FailureKind, of_meaning, of_residual, of_limit, of_memory, value, residual}
use Rattle.cedar_model.specs.Failures.{Answer, answers, fails}
use Rattle.cedar_layers.specs.Policies.{PolicyView}
use Rattle.cedar_text_printer.specs.Policies.{effect_text}
use Rattle.cedar_text_printer.specs.Texts.{written}
use Rattle.cedar_explain.specs.Outcomes.{Came, came_true, came_false, came_other, came_failing, failing_type, answered}
use Rattle.cedar_explain.specs.Explained.{Told}
use Rattle.cedar_explain_printer.specs.Names.{policy_name}

-- ---- errors

abbrev pub kind_text : FailureKind → Text
kind_text (of_meaning entity_does_not_exist) = codes "an entity does not exist"
kind_text (of_meaning entity_attribute_does_not_exist) = codes "an entity does not have the attribute or the tag"
kind_text (of_meaning record_attribute_does_not_exist) = codes "a record does not have the attribute"
kind_text (of_meaning function_does_not_exist) = codes "a function is not known"
kind_text (of_meaning type_error) = codes "a value has the wrong type"
kind_text (of_meaning wrong_number_of_arguments) = codes "a function takes another number of arguments"
kind_text (of_meaning integer_overflow) = codes "a number needs more than 64 bits"
kind_text (of_meaning unlinked_slot) = codes "a slot is not linked"
kind_text (of_meaning function_failed) = codes "an extension function errs"
kind_text of_residual = codes "a value is not known"
kind_text of_limit = codes "the recursion limit is reached"
kind_text of_memory = codes "out of memory"

abbrev pub error_text : FailureKind → Text
error_text k = codes "errs (" ++ (kind_text k ++ codes ")")

-- ---- parts

-- a value: as Cedar's text or, where values are left out, that it is no boolean
abbrev pub value_text : Bool → Represented → Text
value_text true v = written no_slots (expression_of v)
value_text false v = codes "no boolean"

-- what stands for a value that is no boolean
abbrev pub other_text : Bool → Answer → Text
other_text has_values (answers (value v)) = value_text has_values v
other_text has_values (answers (residual t)) = codes "no boolean"
other_text has_values (fails f) = codes "no boolean"

-- true, false, this for another value, or that it errs
abbrev pub came_text : Came → Text → Text
came_text came_true other = codes "true"
came_text came_false other = codes "false"
came_text came_other other = other
came_text (came_failing k) other = error_text k

-- what a part came to, and the part as Cedar's text
abbrev pub part_text : Bool → Told → Text
part_text has_values p =
    came_text (answered p.answer) (other_text has_values p.answer) ++ (codes ": " ++ written no_slots p.term)

-- ---- policies

abbrev pub verdict_text : Came → Text
verdict_text came_true = codes "applies"
verdict_text came_false = codes "does not apply"
verdict_text came_other = codes "errs"
verdict_text (came_failing k) = error_text k

-- a policy, by its effect and its name, and what it came to
abbrev pub policy_text : PolicyView → Came → Text
policy_text p o =
    codes "the "
    ++ (effect_text p.effect ++ (codes " `" ++ (policy_name p ++ (codes "` " ++ verdict_text o))))

abbrev pub truth_text : Bool → Text
truth_text true = codes "true"
truth_text false = codes "false"

-- what a permit lacks: that this part came to this
abbrev pub lack_text : PolicyView → Bool → Term → Text
lack_text p b t =
    codes "the permit `"
    ++ (policy_name p
    ++ (codes "` would apply if this were " ++ (truth_text b ++ (codes ": " ++ written no_slots t))))
