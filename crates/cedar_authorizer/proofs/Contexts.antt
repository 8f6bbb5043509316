-- The context that a map makes, and the values that are put into it.
use Rattle.std.proofs.Common.{◌≡◌, ◌≢◌, ℕ, ◌≤◌, Option, Some, None, IfSome, option_map, Result, Ok, Err, refl, ap, ◌∙◌, sym}
use Rattle.std.proofs.Common.{subst, codes}
use Rattle.cedar_model.specs.Values.{Represented, plain_represented, set_represented, record_represented}
use Rattle.cedar_model.specs.Values.{extension_represented, RepresentedFields}
use Rattle.cedar_model.specs.Failures.{Failure, PartialValue, recursion_limit}
use Rattle.cedar_model.specs.Settings.{ContextPart, absent_context, known_context, residual_context, Setting}
use Rattle.cedar_model.specs.Settings.{context_value}
use Rattle.cedar_model.specs.Rules.{StoredCalls}
use Rattle.cedar_model.specs.Depth.{substituted_height}
use Rattle.cedar_model.specs.Refusals.{Refusal, value_is_wrong, is_there_already, context_fails, context_by}
use Rattle.cedar_model.specs.Refusals.{context_beside, no_record, concrete_context}
use Rattle.cedar_model.specs.Chains.{Mapping, SubstitutesTo}
use Rattle.cedar_errors.specs.declared.evaluator.err.EvaluationError.{EvaluationError}
use Rattle.cedar_errors.specs.Failures.{failure_of}
use Rattle.cedar_requests.specs.declared.context.Context.{Context}
use Rattle.cedar_requests.specs.declared.context.pairs.ContextPairs.{ContextPairs}
use Rattle.cedar_requests.specs.declared.context.pairs.ContextPairs.TheVariants as kinds
use Rattle.cedar_requests.specs.Contexts.{context_view, context_part_value, context_pairs_view, pairs_values}
use Rattle.cedar_requests.specs.Substitutions.{IsSubstituted}
use Rattle.cedar_requests.proofs.Substituting.{residual_height}
use Rattle.cedar_authorizer.specs.declared.reauthorization.err.ConcretizationError.{ConcretizationError}
use Rattle.cedar_authorizer.specs.declared.reauthorization.err.ConcretizationError.TheVariants as concretizations
use Rattle.cedar_authorizer.specs.reauthorization.Errors.{refusal_of, IsValueRefusal, IsUnwrappedRefusal}
use Rattle.cedar_authorizer.specs.reauthorization.Concretizations.{fields_of_represented, IsResidualNoHigher}
use Rattle.cedar_model.proofs.Injections.{some_inj, ok_inj, err_inj, err_is_not_ok}

fails_inj : {e f : Failure} → context_fails e ≡ context_fails f → e ≡ f
fails_inj h = cc

-- ---- the value for the context

-- a value that is no record is refused
by_no_record : (v : Represented) (c : ContextPart) → fields_of_represented v ≡ None → context_by v c ≡ no_record v
unfolding context_by
by_no_record (plain_represented l) c e = refl
by_no_record (set_represented vs) c e = refl
by_no_record (record_represented fs) c e = absurd (cc)
by_no_record (extension_represented t k f ts) c e = refl

-- a record is the context, where there is none
pub by_record : (v : Represented) (fs : RepresentedFields) → fields_of_represented v ≡ Some fs
    → context_by v absent_context ≡ Ok (known_context fs)
unfolding context_by context_beside
by_record (plain_represented l) fs e = absurd (cc)
by_record (set_represented vs) fs e = absurd (cc)
by_record (record_represented gs) fs e = ap (λ x. Ok (known_context x)) (some_inj e)
by_record (extension_represented t k f ts) fs e = absurd (cc)

-- beside a context that is there it is refused
there_already : (v : Represented) (fs : RepresentedFields) (p : ContextPairs) → context_beside v fs (context_pairs_view p)
    ≡ Err (is_there_already (codes "context") (context_value (context_pairs_view p)) v)
unfolding context_beside
there_already v fs (kinds.Values m) = refl
there_already v fs (kinds.Residual r) = refl

pub conflict : (v : Represented) (fs : RepresentedFields) (c : Context) (q : PartialValue) (o : Option Refusal)
    → Some fs ≡ fields_of_represented v → q ≡ context_part_value c → o ≡ Some (is_there_already (codes "context") q v)
    → IfSome (option_map {U = Result ContextPart Refusal} Err o) (λ a. a ≡ context_by v (context_view c))
unfolding context_by
conflict (plain_represented l) fs c q o f h e = absurd (cc)
conflict (set_represented vs) fs c q o f h e = absurd (cc)
conflict (record_represented gs) fs c q o f h e =
    subst (λ y. IfSome (option_map {U = Result ContextPart Refusal} Err y) (λ a. a
    ≡ context_beside (record_represented gs) gs (context_view c))) (sym e)
    (ap (λ y. Err (is_there_already (codes "context") y (record_represented gs))) h
    ∙ sym (there_already (record_represented gs) gs c.pairs))
conflict (extension_represented t k f ts) fs c q o g h e = absurd (cc)

pub wrong_kind : (v : Represented) (c : ContextPart) (o : Option Refusal) → None ≡ fields_of_represented v
    → o ≡ Some (value_is_wrong (codes "context") (codes "record") v)
    → IfSome (option_map {U = Result ContextPart Refusal} Err o) (λ a. a ≡ context_by v c)
wrong_kind v c o f e =
    subst (λ y. IfSome (option_map {U = Result ContextPart Refusal} Err y) (λ a. a ≡ context_by v c)) (sym e)
    (sym (by_no_record v c (sym f)))

-- ---- values in the context

-- the error of the evaluation, or out of memory
pub values_refused : (s : Setting) (calls : StoredCalls) (n : ℕ) (m : Mapping) (c : ContextPart) (e : EvaluationError)
    (f : ConcretizationError) → IsValueRefusal e f → IsSubstituted s calls n m c (Err e)
    → IfSome (option_map Err (refusal_of f)) (SubstitutesTo s calls n m c)
values_refused s calls n m c e (concretizations.ValueError id expected given) is h = absurd is
values_refused s calls n m c e (concretizations.VarConfictError id existing given) is h = absurd is
values_refused s calls n m c e (concretizations.EntityTypeConfictError id type given) is h = absurd is
values_refused s calls n m c e (concretizations.ValueEval g) is h =
    subst (λ x. SubstitutesTo s calls n m c (Err (context_fails (failure_of x)))) (sym is.0)
    (h (λ w. is.1 (fails_inj (err_inj w))))
values_refused s calls n m c e (concretizations.Memory x) is h = tt

-- what never met the limit does not answer it
pub low_refused : (e : EvaluationError) (f : ConcretizationError) → IsValueRefusal e f
    → failure_of e ≢ recursion_limit → refusal_of f ≢ Some (context_fails recursion_limit)
low_refused e (concretizations.ValueError id expected given) is h w = is
low_refused e (concretizations.VarConfictError id existing given) is h w = is
low_refused e (concretizations.EntityTypeConfictError id type given) is h w = is
low_refused e (concretizations.ValueEval g) is h w =
    h (ap failure_of (sym is.0) ∙ fails_inj (some_inj w))
low_refused e (concretizations.Memory x) is h w = absurd (cc)

-- running out of memory is not wrapped
pub value_unwrapped : (e : EvaluationError) (f : ConcretizationError) → IsValueRefusal e f → IsUnwrappedRefusal f
value_unwrapped e (concretizations.ValueError id expected given) is w = is
value_unwrapped e (concretizations.VarConfictError id existing given) is w = is
value_unwrapped e (concretizations.EntityTypeConfictError id type given) is w = is
value_unwrapped e (concretizations.ValueEval g) is w = is.1 (ap failure_of (sym is.0) ∙ fails_inj (some_inj w))
value_unwrapped e (concretizations.Memory x) is w = absurd (cc)

-- a context of values is never refused, and a residual one not for its height
pub low_context : (m : Mapping) (n : ℕ) (c : Context) (e : EvaluationError)
    → IfSome (pairs_values c.pairs) (λ v. Err e ≡ Ok c)
    → (substituted_height m (context_part_value c) ≤ n → failure_of e ≢ recursion_limit)
    → IsResidualNoHigher m n (context_view c) → failure_of e ≢ recursion_limit
low_context m n c e same low h = by c.pairs same low h
  where
    by : (p : ContextPairs) → IfSome (pairs_values p) (λ v. Err e ≡ Ok c)
        → (substituted_height m (context_value (context_pairs_view p)) ≤ n → failure_of e ≢ recursion_limit)
        → IsResidualNoHigher m n (context_pairs_view p) → failure_of e ≢ recursion_limit
    by (kinds.Values v) same low h w = err_is_not_ok same
    by (kinds.Residual r) same low h w = low (subst (λ k. k ≤ n) (sym (residual_height m r)) h) w

-- the context that the map makes is a residual only where it was
pub low_mapped : (m : Mapping) (n : ℕ) (o : Option Represented) (c d : ContextPart) → concrete_context o c ≡ Ok d
    → IsResidualNoHigher m n c → IsResidualNoHigher m n d
unfolding concrete_context context_by context_beside
low_mapped m n None c d e h = subst (IsResidualNoHigher m n) (ok_inj e) h
low_mapped m n (Some (plain_represented l)) c d e h = absurd (err_is_not_ok e)
low_mapped m n (Some (set_represented vs)) c d e h = absurd (err_is_not_ok e)
low_mapped m n (Some (record_represented fs)) absent_context d e h = subst (IsResidualNoHigher m n) (ok_inj e) tt
low_mapped m n (Some (record_represented fs)) (known_context gs) d e h = absurd (err_is_not_ok e)
low_mapped m n (Some (record_represented fs)) (residual_context gs) d e h = absurd (err_is_not_ok e)
low_mapped m n (Some (extension_represented t k f ts)) c d e h = absurd (err_is_not_ok e)

-- the map's value is never refused for an evaluation
pub context_evaluates_nothing : (o : Option Represented) (c : ContextPart) (f : Failure)
    → concrete_context o c ≢ Err (context_fails f)
unfolding concrete_context context_by context_beside
context_evaluates_nothing None c f e = err_is_not_ok (sym e)
context_evaluates_nothing (Some (plain_represented l)) c f e = absurd (cc)
context_evaluates_nothing (Some (set_represented vs)) c f e = absurd (cc)
context_evaluates_nothing (Some (record_represented fs)) absent_context f e = err_is_not_ok (sym e)
context_evaluates_nothing (Some (record_represented fs)) (known_context gs) f e = absurd (cc)
context_evaluates_nothing (Some (record_represented fs)) (residual_context gs) f e = absurd (cc)
context_evaluates_nothing (Some (extension_represented t k g ts)) c f e = absurd (cc)
