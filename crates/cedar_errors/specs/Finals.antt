-- The errors that end a whole evaluation: the recursion limit, and out of memory.
use Rattle.std.specs.Prelude.{Bool, true, false, ◌||◌}
use Rattle.cedar_model.specs.Failures.{FailureKind, of_meaning, of_residual, of_limit, of_memory}
use Rattle.cedar_model.specs.Chains as chains
use Rattle.cedar_errors.specs.declared.evaluator.err.EvaluationError.{EvaluationError}
use Rattle.cedar_errors.specs.declared.evaluator.err.EvaluationError.TheVariants as errors

-- the recursion limit
abbrev pub is_limit : EvaluationError → Bool
is_limit (errors.EntityDoesNotExist e) = false
is_limit (errors.EntityAttrDoesNotExist e) = false
is_limit (errors.RecordAttrDoesNotExist e) = false
is_limit (errors.FailedExtensionFunctionLookup e) = false
is_limit (errors.TypeError e) = false
is_limit (errors.WrongNumArguments e) = false
is_limit (errors.IntegerOverflow e) = false
is_limit (errors.UnlinkedSlot e) = false
is_limit (errors.FailedExtensionFunctionExecution e) = false
is_limit (errors.NonValue e) = false
is_limit (errors.RecursionLimit e) = true
is_limit (errors.Memory e) = false

-- out of memory
abbrev pub is_memory_variant : EvaluationError → Bool
is_memory_variant (errors.EntityDoesNotExist e) = false
is_memory_variant (errors.EntityAttrDoesNotExist e) = false
is_memory_variant (errors.RecordAttrDoesNotExist e) = false
is_memory_variant (errors.FailedExtensionFunctionLookup e) = false
is_memory_variant (errors.TypeError e) = false
is_memory_variant (errors.WrongNumArguments e) = false
is_memory_variant (errors.IntegerOverflow e) = false
is_memory_variant (errors.UnlinkedSlot e) = false
is_memory_variant (errors.FailedExtensionFunctionExecution e) = false
is_memory_variant (errors.NonValue e) = false
is_memory_variant (errors.RecursionLimit e) = false
is_memory_variant (errors.Memory e) = true

-- an error that ends the whole evaluation
abbrev pub is_final : EvaluationError → Bool
is_final e = is_limit e || is_memory_variant e

-- whether a failure of this kind is out of memory
unfoldable pub is_of_memory : FailureKind → Bool
is_of_memory (of_meaning k) = false
is_of_memory of_residual = false
is_of_memory of_limit = false
is_of_memory of_memory = true

-- whether a failure of this kind ends the whole evaluation
abbrev pub is_final_kind : FailureKind → Bool
is_final_kind k = chains.is_limit k || is_of_memory k
