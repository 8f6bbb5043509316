-- The places of errors, and errors at other places.
use Rattle.std.specs.Prelude.{Option, None, Some}
use Rattle.cedar_names.specs.declared.names.Loc.{Loc}
use Rattle.cedar_errors.specs.declared.extensions.ExtensionFunctionLookupError.{ExtensionFunctionLookupError}
use Rattle.cedar_errors.specs.declared.extensions.ExtensionFunctionLookupError.TheVariants as lookups
use Rattle.cedar_errors.specs.declared.evaluator.err.evaluation_errors.IntegerOverflowError.{IntegerOverflowError}
use Rattle.cedar_errors.specs.declared.evaluator.err.evaluation_errors.IntegerOverflowError.TheVariants as overflows
use Rattle.cedar_errors.specs.declared.evaluator.err.EvaluationError.{EvaluationError}
use Rattle.cedar_errors.specs.declared.evaluator.err.EvaluationError.TheVariants as errors

-- where a look-up failed
abbrev pub lookup_loc : ExtensionFunctionLookupError → Option Loc
lookup_loc (lookups.FuncDoesNotExist e) = e.source_loc
lookup_loc (lookups.Memory e) = None

-- the same failure at another place
abbrev pub lookup_at : ExtensionFunctionLookupError → Option Loc → ExtensionFunctionLookupError
lookup_at (lookups.FuncDoesNotExist e) l = lookups.FuncDoesNotExist (record e { source_loc = l })
lookup_at (lookups.Memory e) l = lookups.Memory e

-- where a number was too large
abbrev pub overflow_loc : IntegerOverflowError → Option Loc
overflow_loc (overflows.BinaryOp e) = e.source_loc
overflow_loc (overflows.UnaryOp e) = e.source_loc

-- the same error at another place
abbrev pub overflow_at : IntegerOverflowError → Option Loc → IntegerOverflowError
overflow_at (overflows.BinaryOp e) l = overflows.BinaryOp (record e { source_loc = l })
overflow_at (overflows.UnaryOp e) l = overflows.UnaryOp (record e { source_loc = l })

-- the evaluation's error for a look-up's: running out of memory stays out of memory
abbrev pub error_of_lookup : ExtensionFunctionLookupError → EvaluationError
error_of_lookup (lookups.FuncDoesNotExist e) = errors.FailedExtensionFunctionLookup (lookups.FuncDoesNotExist e)
error_of_lookup (lookups.Memory e) = errors.Memory e

-- where an evaluation failed
abbrev pub error_loc : EvaluationError → Option Loc
error_loc (errors.EntityDoesNotExist e) = e.source_loc
error_loc (errors.EntityAttrDoesNotExist e) = e.source_loc
error_loc (errors.RecordAttrDoesNotExist e) = e.source_loc
error_loc (errors.FailedExtensionFunctionLookup e) = lookup_loc e
error_loc (errors.TypeError e) = e.source_loc
error_loc (errors.WrongNumArguments e) = e.source_loc
error_loc (errors.IntegerOverflow e) = overflow_loc e
error_loc (errors.UnlinkedSlot e) = e.source_loc
error_loc (errors.FailedExtensionFunctionExecution e) = e.source_loc
error_loc (errors.NonValue e) = e.source_loc
error_loc (errors.RecursionLimit e) = e.source_loc
error_loc (errors.Memory e) = None

-- the same error at another place
abbrev pub error_at : EvaluationError → Option Loc → EvaluationError
error_at (errors.EntityDoesNotExist e) l = errors.EntityDoesNotExist (record e { source_loc = l })
error_at (errors.EntityAttrDoesNotExist e) l = errors.EntityAttrDoesNotExist (record e { source_loc = l })
error_at (errors.RecordAttrDoesNotExist e) l = errors.RecordAttrDoesNotExist (record e { source_loc = l })
error_at (errors.FailedExtensionFunctionLookup e) l = errors.FailedExtensionFunctionLookup (lookup_at e l)
error_at (errors.TypeError e) l = errors.TypeError (record e { source_loc = l })
error_at (errors.WrongNumArguments e) l = errors.WrongNumArguments (record e { source_loc = l })
error_at (errors.IntegerOverflow e) l = errors.IntegerOverflow (overflow_at e l)
error_at (errors.UnlinkedSlot e) l = errors.UnlinkedSlot (record e { source_loc = l })
error_at (errors.FailedExtensionFunctionExecution e) l =
    errors.FailedExtensionFunctionExecution (record e { source_loc = l })
error_at (errors.NonValue e) l = errors.NonValue (record e { source_loc = l })
error_at (errors.RecursionLimit e) l = errors.RecursionLimit (record e { source_loc = l })
error_at (errors.Memory e) l = errors.Memory e

-- an error, by its own place, within this place: one that has a place keeps it, and another is at this one
abbrev pub error_within : Option Loc → EvaluationError → Option Loc → EvaluationError
error_within None e l = error_at e l
error_within (Some own) e l = e
