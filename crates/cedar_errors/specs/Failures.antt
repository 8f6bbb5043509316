-- The failure that an error stands for: its fields, without places.
use Rattle.std.specs.Prelude.{map, string_bytes}
use Rattle.std.specs.Rc.{rc_str_bytes}
use Rattle.cedar_model.specs.Failures.{Failure, entity_is_missing, entity_attribute_is_missing, record_attribute_is_missing, function_is_missing, type_is_wrong, arguments_are_miscounted, binary_overflow, unary_overflow, slot_is_unlinked, function_has_failed, residual_is_left, recursion_limit, out_of_memory, memory_is_wrapped}
use Rattle.cedar_names.specs.Names.{name_text, uid_name}
use Rattle.cedar_names.specs.Leaves.{slot_view, unary_view, binary_view, type_view, texts_view}
use Rattle.cedar_expressions.specs.View.{view}
use Rattle.cedar_errors.specs.declared.extensions.ExtensionFunctionLookupError.{ExtensionFunctionLookupError}
use Rattle.cedar_errors.specs.declared.extensions.ExtensionFunctionLookupError.TheVariants as lookups
use Rattle.cedar_errors.specs.declared.evaluator.err.evaluation_errors.IntegerOverflowError.{IntegerOverflowError}
use Rattle.cedar_errors.specs.declared.evaluator.err.evaluation_errors.IntegerOverflowError.TheVariants as overflows
use Rattle.cedar_errors.specs.declared.evaluator.err.EvaluationError.{EvaluationError}
use Rattle.cedar_errors.specs.declared.evaluator.err.EvaluationError.TheVariants as errors

abbrev pub lookup_failure : ExtensionFunctionLookupError → Failure
lookup_failure (lookups.FuncDoesNotExist e) = function_is_missing (name_text e.name)
lookup_failure (lookups.Memory e) = memory_is_wrapped

abbrev pub overflow_failure : IntegerOverflowError → Failure
overflow_failure (overflows.BinaryOp e) = binary_overflow (binary_view e.op) e.arg1.what e.arg2.what
overflow_failure (overflows.UnaryOp e) = unary_overflow (unary_view e.op) e.arg.what

-- the failure of an error
abbrev pub failure_of : EvaluationError → Failure
failure_of (errors.EntityDoesNotExist e) = entity_is_missing (uid_name e.uid.value)
failure_of (errors.EntityAttrDoesNotExist e) =
    entity_attribute_is_missing (uid_name e.entity.value) (rc_str_bytes e.attr_or_tag) e.was_attr e.exists_the_other_kind (texts_view e.available_attrs_or_tags.items) e.total_attrs_or_tags
failure_of (errors.RecordAttrDoesNotExist e) =
    record_attribute_is_missing (rc_str_bytes e.attr) (texts_view e.available_attrs.items) e.total_attrs
failure_of (errors.FailedExtensionFunctionLookup e) = lookup_failure e
failure_of (errors.TypeError e) = type_is_wrong (type_view e.expected.first) (map type_view e.expected.rest.items) (type_view e.actual)
failure_of (errors.WrongNumArguments e) = arguments_are_miscounted (name_text e.function_name) e.expected e.actual
failure_of (errors.IntegerOverflow e) = overflow_failure e
failure_of (errors.UnlinkedSlot e) = slot_is_unlinked (slot_view e.slot)
failure_of (errors.FailedExtensionFunctionExecution e) = function_has_failed (name_text e.extension_name) (string_bytes e.msg)
failure_of (errors.NonValue e) = residual_is_left (view e.expr)
failure_of (errors.RecursionLimit e) = recursion_limit
failure_of (errors.Memory e) = out_of_memory
