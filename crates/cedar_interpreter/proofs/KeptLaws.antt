-- Which errors keep the part that failed.
use Rattle.std.specs.Prelude.{◌≡◌, ◌≢◌, false}
use Rattle.std.proofs.Common.{refl, subst}
use Rattle.cedar_model.specs.Terms.{Term, slot, principal_slot}
use Rattle.cedar_model.specs.Failures.{fails, out_of_memory, failure_kind}
use Rattle.cedar_model.specs.Rules.{best, best_of_kind, kept}
use Rattle.cedar_errors.specs.declared.extensions.ExtensionFunctionLookupError.TheVariants as lookups
use Rattle.cedar_errors.specs.declared.evaluator.err.evaluation_errors.IntegerOverflowError.TheVariants as overflows
use Rattle.cedar_errors.specs.declared.evaluator.err.EvaluationError.{EvaluationError}
use Rattle.cedar_errors.specs.declared.evaluator.err.EvaluationError.TheVariants as errors
use Rattle.cedar_errors.specs.Failures.{failure_of}
use Rattle.cedar_errors.specs.Finals.{is_final}

some_term : Term
some_term = slot principal_slot

pub keeps_original : (e : EvaluationError) (t : Term) → is_final e ≡ false → best (fails (failure_of e)) t ≡ kept t
unfolding best best_of_kind failure_kind
keeps_original (errors.EntityDoesNotExist e) t h = refl
keeps_original (errors.EntityAttrDoesNotExist e) t h = refl
keeps_original (errors.RecordAttrDoesNotExist e) t h = refl
keeps_original (errors.FailedExtensionFunctionLookup (lookups.FuncDoesNotExist e)) t h = refl
keeps_original (errors.FailedExtensionFunctionLookup (lookups.Memory e)) t h = refl
keeps_original (errors.TypeError e) t h = refl
keeps_original (errors.WrongNumArguments e) t h = refl
keeps_original (errors.IntegerOverflow (overflows.BinaryOp e)) t h = refl
keeps_original (errors.IntegerOverflow (overflows.UnaryOp e)) t h = refl
keeps_original (errors.UnlinkedSlot e) t h = refl
keeps_original (errors.FailedExtensionFunctionExecution e) t h = refl
keeps_original (errors.NonValue e) t h = refl
keeps_original (errors.RecursionLimit e) t h = absurd (cc)
keeps_original (errors.Memory e) t h = absurd (cc)

-- and is not out of memory
pub ordinary_is_not_out_of_memory : (e : EvaluationError) → is_final e ≡ false → fails (failure_of e) ≢ fails out_of_memory
unfolding best best_of_kind failure_kind
ordinary_is_not_out_of_memory e h is =
    let kept_one : best (fails out_of_memory) some_term ≡ kept some_term = subst (λ a. best a some_term ≡ kept some_term) is (keeps_original e some_term h) in
    absurd (cc)
