-- Errors that are told by their kind.
use Rattle.std.proofs.Common.{Result, Ok, Err}
use Rattle.std.specs.Prelude.{IfOk, codes}
use Rattle.std.specs.declared.alloc.AllocError.{AllocError}
use Rattle.cedar_model.specs.Terms.{Text}
use Rattle.cedar_model.specs.Failures.{Failure}
use Rattle.cedar_errors.specs.Failures.{lookup_failure, overflow_failure}
use Rattle.cedar_errors.specs.declared.extensions.ExtensionFunctionLookupError.{ExtensionFunctionLookupError}
use Rattle.cedar_errors.specs.declared.extensions.ExtensionFunctionLookupError.TheVariants as lookups
use Rattle.cedar_errors.specs.declared.evaluator.err.evaluation_errors.IntegerOverflowError.{IntegerOverflowError}
use Rattle.cedar_errors.specs.declared.evaluator.err.evaluation_errors.IntegerOverflowError.TheVariants as overflows
use Rattle.cedar_json_writer.specs.declared.tree.JsonValue.{JsonValue}
use Rattle.cedar_json_writer.specs.Trees.{json_view}
use Rattle.cedar_response_json.specs.Errors.{IsErrorJson, ToldAs, Says, kind_word}

-- whatever it says
pub told_any : (id : Text) (f : Failure) (x : Result JsonValue AllocError) → ((t : Text) → Says f t) → IfOk x (ToldAs id (kind_word f)) → IfOk x (λ j. IsErrorJson (id, f) (json_view j))
told_any id f (Ok j) any (message, is) = (message, any message, is)
told_any id f (Err e) any h = tt

pub told_lookup : (id : Text) (e : ExtensionFunctionLookupError) (x : Result JsonValue AllocError) → IfOk x (ToldAs id (codes "functionDoesNotExist")) → IfOk x (λ j. IsErrorJson (id, lookup_failure e) (json_view j))
told_lookup id (lookups.FuncDoesNotExist e) x h = told_any id (lookup_failure (lookups.FuncDoesNotExist e)) x (λ t. tt) h
told_lookup id (lookups.Memory e) x h = told_any id (lookup_failure (lookups.Memory e)) x (λ t. tt) h

pub told_overflow : (id : Text) (e : IntegerOverflowError) (x : Result JsonValue AllocError) → IfOk x (ToldAs id (codes "integerOverflow")) → IfOk x (λ j. IsErrorJson (id, overflow_failure e) (json_view j))
told_overflow id (overflows.BinaryOp e) x h = told_any id (overflow_failure (overflows.BinaryOp e)) x (λ t. tt) h
told_overflow id (overflows.UnaryOp e) x h = told_any id (overflow_failure (overflows.UnaryOp e)) x (λ t. tt) h
