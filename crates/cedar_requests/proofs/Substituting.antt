-- Values that are put into a context.
use Rattle.std.proofs.Common.{◌≡◌, ◌≢◌, ℕ, true, List, IfErr, Result, Ok, Err, Global, refl, ap}
use Rattle.std.specs.declared.rc.RcStr.{RcStr}
use Rattle.cedar_model.specs.Terms.{Fields, record_of}
use Rattle.cedar_model.specs.Shapes.{is_restricted, are_restricted_at}
use Rattle.cedar_model.specs.Failures.{out_of_memory, recursion_limit, answers, fails}
use Rattle.cedar_model.specs.Failures.{limit, part_expression}
use Rattle.cedar_model.specs.Settings.{ContextPart, absent_context, known_context, residual_context, Setting}
use Rattle.cedar_model.specs.Settings.{context_value}
use Rattle.cedar_model.specs.Rules.{StoredCalls}
use Rattle.cedar_model.specs.Agreement.{height}
use Rattle.cedar_model.specs.Depth.{substituted_height}
use Rattle.cedar_model.specs.Refusals.{IsContext, context_fails}
use Rattle.cedar_model.specs.Chains.{Mapping, substituted, substituted_at, without_map}
use Rattle.cedar_model.proofs.RestrictedAnswers.{substituted_at_restricted}
use Rattle.cedar_values.specs.Sound.{Placed}
use Rattle.cedar_errors.specs.declared.evaluator.err.EvaluationError.{EvaluationError}
use Rattle.cedar_errors.specs.Failures.{failure_of}
use Rattle.cedar_requests.specs.declared.context.Context.{Context}
use Rattle.cedar_requests.specs.declared.context.pairs.ContextPairs.{ContextPairs}
use Rattle.cedar_requests.specs.declared.context.pairs.ContextPairs.TheVariants as kinds
use Rattle.cedar_requests.specs.declared.context.pairs.ResidualPairs.{ResidualPairs}
use Rattle.cedar_requests.specs.Contexts.{context_part_value, context_pairs_view, residual_fields}
use Rattle.cedar_requests.specs.Substitutions.{values_for, context_answer, IsSubstituted}
use Rattle.cedar_requests.specs.Substitutions.{IsSubstitutedWithin}
use Rattle.cedar_requests.proofs.Soundness.{mapped_value_is_sound}
use Rattle.cedar_model.proofs.Injections.{answers_is_not_fails, fails_inj}

-- ---- values of a map are sound, so that the record stays restricted

pub record_restricted : (es : List (RcStr Global × Placed)) (fs : Fields) → are_restricted_at fs ≡ true →
    is_restricted (record_of (substituted_at (values_for es) fs)) ≡ true
record_restricted es fs h = substituted_at_restricted (values_for es) (mapped_value_is_sound es) fs h

-- ---- answers

-- the context of a context's record is that context
own_pairs : (p : ContextPairs) → IsContext (answers (context_value (context_pairs_view p))) (Ok (context_pairs_view p))
unfolding context_value
own_pairs (kinds.Values m) = refl
own_pairs (kinds.Residual r) = refl

-- what is answered within the levels without the map is what a step makes of the context
pub step_answer : (s : Setting) (calls : StoredCalls) (n : ℕ) (m : Mapping) (c : ContextPart)
    (r : Result Context EvaluationError) → IsSubstitutedWithin (without_map s) calls n m c r
    → IsSubstituted s calls n m c r
step_answer s calls n m absent_context r h want = h
step_answer s calls n m (known_context fs) r h want = h
step_answer s calls n m (residual_context fs) (Ok c) h want =
    (answers (context_part_value c), (h (answers_is_not_fails (context_part_value c) out_of_memory)).runs, own_pairs c.pairs)
step_answer s calls n m (residual_context fs) (Err e) h want = (
  fails (failure_of e),
  (h (λ w. want (ap (λ f. Err (context_fails f)) (fails_inj w)))).runs,
  refl,
)

pub low_error : (r : Result Context EvaluationError) → context_answer r ≢ limit →
    IfErr r (λ e. failure_of e ≢ recursion_limit)
low_error (Ok c) h = tt
low_error (Err e) h = λ w. h (ap fails w)

-- the height of a residual's record with the values in it
pub residual_height : (m : Mapping) (r : ResidualPairs) →
    substituted_height m (context_value (context_pairs_view (kinds.Residual r)))
    ≡ height (record_of (substituted_at m (residual_fields r)))
unfolding context_value part_expression substituted
residual_height m r = refl
