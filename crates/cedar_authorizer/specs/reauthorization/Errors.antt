-- What the errors of a step say, as the model's refusals.
use Rattle.std.specs.Prelude.{◌≡◌, ◌≢◌, Option, Some, None, option_map, Result, Ok, Err}
use Rattle.std.specs.Rc.{rc_str_bytes}
use Rattle.cedar_model.specs.Failures.{recursion_limit, out_of_memory}
use Rattle.cedar_model.specs.Refusals.{Refusal, mode_is_other, id_comes_again, value_is_wrong, is_there_already}
use Rattle.cedar_model.specs.Refusals.{type_is_other, context_fails}
use Rattle.cedar_decisions.specs.Decisions.{mode_view}
use Rattle.cedar_names.specs.Names.{type_text}
use Rattle.cedar_values.specs.Residuals.{partial_view}
use Rattle.cedar_layers.specs.declared.policies.policy_set.PolicySetError.{PolicySetError}
use Rattle.cedar_layers.specs.declared.policies.policy_set.PolicySetError.TheVariants as sets
use Rattle.cedar_layers.specs.PolicySets.{occupied_id}
use Rattle.cedar_errors.specs.declared.evaluator.err.EvaluationError.{EvaluationError}
use Rattle.cedar_errors.specs.Failures.{failure_of}
use Rattle.cedar_authorizer.specs.declared.reauthorization.err.ConcretizationError.{ConcretizationError}
use Rattle.cedar_authorizer.specs.declared.reauthorization.err.ConcretizationError.TheVariants as concretizations
use Rattle.cedar_authorizer.specs.declared.reauthorization.err.ReauthorizationError.{ReauthorizationError}
use Rattle.cedar_authorizer.specs.declared.reauthorization.err.ReauthorizationError.TheVariants as reauthorizations

-- ---- refusals; running out of memory is none

abbrev pub refusal_of : ConcretizationError → Option Refusal
refusal_of (concretizations.ValueError id expected given) =
    Some (value_is_wrong (rc_str_bytes id) expected.now given.what)
refusal_of (concretizations.VarConfictError id existing given) =
    Some (is_there_already (rc_str_bytes id) (partial_view existing) given.what)
refusal_of (concretizations.EntityTypeConfictError id type given) =
    Some (type_is_other (rc_str_bytes id) (type_text type) given.what)
refusal_of (concretizations.ValueEval e) = Some (context_fails (failure_of e))
refusal_of (concretizations.Memory e) = None

abbrev pub step_refusal : ReauthorizationError → Option Refusal
step_refusal (reauthorizations.ErrorHandlingConflict response authorizer) =
    Some (mode_is_other (mode_view response) (mode_view authorizer))
step_refusal (reauthorizations.PolicySetError e) = option_map id_comes_again (occupied_id e)
step_refusal (reauthorizations.ConcretizationError e) = refusal_of e
step_refusal (reauthorizations.Memory e) = None

-- it is not that the recursion limit was met
abbrev pub IsBelowLimit : ConcretizationError → Type 0
IsBelowLimit e = refusal_of e ≢ Some (context_fails recursion_limit)

-- ---- out of memory, which no other error holds

-- it is out of memory: no refusal, or that of an evaluation that memory ran out for
abbrev pub IsForMemory : Option Refusal → Type 0
IsForMemory None = Unit {0}
IsForMemory (Some r) = r ≡ context_fails out_of_memory

-- it is not
abbrev pub IsNotForMemory : Option Refusal → Type 0
IsNotForMemory None = ⊥
IsNotForMemory (Some r) = r ≢ context_fails out_of_memory

-- an error of the request is out of memory itself, or holds none
abbrev pub IsUnwrappedRefusal : ConcretizationError → Type 0
IsUnwrappedRefusal e = refusal_of e ≢ Some (context_fails out_of_memory)

-- an error of a step is out of memory itself, or holds none
abbrev pub IsUnwrapped : ReauthorizationError → Type 0
IsUnwrapped (reauthorizations.ErrorHandlingConflict response authorizer) = Unit {0}
IsUnwrapped (reauthorizations.PolicySetError e) = IsNotForMemory (option_map id_comes_again (occupied_id e))
IsUnwrapped (reauthorizations.ConcretizationError e) = IsNotForMemory (refusal_of e)
IsUnwrapped (reauthorizations.Memory e) = Unit {0}

-- ---- answers: what was made, seen so, or the refusal

abbrev pub answer_by : {A B : Type 0} → (A → B) → Result A ConcretizationError → Option (Result B Refusal)
answer_by see (Ok x) = Some (Ok (see x))
answer_by see (Err e) = option_map Err (refusal_of e)

abbrev pub step_answer_by : {A B : Type 0} → (A → B) → Result A ReauthorizationError → Option (Result B Refusal)
step_answer_by see (Ok x) = Some (Ok (see x))
step_answer_by see (Err e) = option_map Err (step_refusal e)

-- ---- conversions

-- an error of the evaluation is kept whole, and running out of memory stays out of memory
abbrev pub IsValueRefusal : EvaluationError → ConcretizationError → Type 0
IsValueRefusal e (concretizations.ValueError id expected given) = ⊥
IsValueRefusal e (concretizations.VarConfictError id existing given) = ⊥
IsValueRefusal e (concretizations.EntityTypeConfictError id type given) = ⊥
IsValueRefusal e (concretizations.ValueEval f) = (f ≡ e) × (failure_of e ≢ out_of_memory)
IsValueRefusal e (concretizations.Memory m) = failure_of e ≡ out_of_memory

-- so is an error of the policies
abbrev pub IsPolicyRefusal : PolicySetError → ReauthorizationError → Type 0
IsPolicyRefusal (sets.Occupied id) r = r ≡ reauthorizations.PolicySetError (sets.Occupied id)
IsPolicyRefusal (sets.Memory e) r = r ≡ reauthorizations.Memory e

-- and one of the request, from which running out of memory is also taken where the evaluation of the context holds it
abbrev pub IsRequestRefusal : ConcretizationError → ReauthorizationError → Type 0
IsRequestRefusal e (reauthorizations.ErrorHandlingConflict response authorizer) = ⊥
IsRequestRefusal e (reauthorizations.PolicySetError p) = ⊥
IsRequestRefusal e (reauthorizations.ConcretizationError f) = (f ≡ e) × IsNotForMemory (refusal_of f)
IsRequestRefusal e (reauthorizations.Memory m) = IsForMemory (refusal_of e)
