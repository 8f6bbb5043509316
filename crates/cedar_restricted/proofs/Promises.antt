-- What is promised of the evaluation of a restricted expression, from what the loop answers.
use Rattle.std.proofs.Common.{◌≡◌, ◌≢◌, ℕ, ◌≤◌, ◌<◌, true, false, List, [], None, Result, Ok, Err, IfOk, refl, sym, ◌∙◌}
use Rattle.std.proofs.Common.{subst, arith}
use Rattle.cedar_model.specs.Terms.{Text, EntityName, bool_literal, Term}
use Rattle.cedar_model.specs.Values.{AbstractValue, plain, Represented, no_represented_at}
use Rattle.cedar_model.specs.Agreement.{height, HasNothingUnknown, AnswersOutcome, own_world}
use Rattle.cedar_model.specs.Authorizations.{IsExact}
use Rattle.cedar_model.specs.Alike.{AreFunctional}
use Rattle.cedar_model.specs.Failures as model
use Rattle.cedar_model.specs.Failures.{Failure, answers, fails, limit, out_of_memory}
use Rattle.cedar_model.specs.Settings.{Setting, known_entry, known_context, shallow}
use Rattle.cedar_model.specs.Shapes.{is_restricted}
use Rattle.cedar_model.specs.Rules.{StoredCalls, Runs, Exceeds, Meets}
use Rattle.cedar_model.specs.World as world
use Rattle.cedar_model.specs.laws.Levels.{FunctionsMeetNoLimit}
use Rattle.cedar_model.specs.Restricted.{IsSoundPart}
use Rattle.cedar_model.specs.laws.Restricted.{AnswersSound, HoldsUnknown}
use Rattle.cedar_model.proofs.Determined.{limit_alone}
use Rattle.cedar_model.proofs.Exactly.{answer_exact}
use Rattle.cedar_model.proofs.Needs.{restricted_need}
use Rattle.cedar_model.proofs.RestrictedAnswers.{reads_nothing, stays_restricted}
use Rattle.cedar_expressions.specs.declared.expr.Expr.{Expr}
use Rattle.cedar_expressions.specs.View.{view}
use Rattle.cedar_values.specs.declared.partial_value.PartialValue.{PartialValue}
use Rattle.cedar_values.specs.declared.partial_value.PartialValue.TheVariants as partials
use Rattle.cedar_values.specs.Residuals.{partial_view}
use Rattle.cedar_errors.specs.declared.evaluator.err.EvaluationError.{EvaluationError}
use Rattle.cedar_restricted.specs.Evaluations.{partial_answer, bare_setting, IsBare, IsAnswerWithin, IsValueWithin}
use Rattle.cedar_restricted.specs.Evaluations.{only_values, IsKnownExactly}
use Rattle.cedar_restricted.specs.Frames.{IsRight}
use Rattle.cedar_restricted.proofs.Unread.{meaning_unread}

-- a stored function answers what is sound, and there is no map
pub sound_answers : (x : world.Extensions) (calls : StoredCalls) → ((f : Text) (vs : List Represented)
    (p : model.PartialValue) → calls f vs (answers p) → IsSoundPart p) → AnswersSound calls (bare_setting x)
sound_answers x calls sound = record { mapped_sound = λ n v h. absurd (cc); answers_sound = sound }

never_out_of_memory : (p : model.PartialValue) → answers p ≢ fails out_of_memory
never_out_of_memory p h = cc

no_limit : (p : model.PartialValue) → answers p ≢ limit
no_limit p h = cc

limit_is_not_out_of_memory : limit ≢ fails out_of_memory
limit_is_not_out_of_memory h = cc

module _ (x : world.Extensions) (calls : StoredCalls) (n : ℕ) (t : Expr) (r : Result PartialValue EvaluationError)
    (is_r : is_restricted (view t) ≡ true) (right : IsRight x calls n t r) where
  pub promised : AreFunctional calls → (s : Setting) → IsBare x s →
      Meets (IsAnswerWithin s calls n (view t)) (partial_answer r)
  promised functional s b ok =
      let runs : Runs s calls n (view t) (partial_answer r) =
      reads_nothing (bare_setting x) s calls (sym b.no_map) (sym b.has_extensions) n (view t) (partial_answer r) is_r
      (right.answer is_r ok) in
      record {
        runs = runs;
        limited = (
          λ is. subst (Runs s calls n (view t)) is runs,
          λ met. limit_alone s calls functional n (view t) (partial_answer r) met runs,
        );
        allowed = λ below. (below, n, runs);
      }

  pub low_enough : FunctionsMeetNoLimit calls → height (view t) ≤ n → partial_answer r ≢ limit
  low_enough meet_none low is =
      let met : Exceeds (bare_setting x) calls (view t) n =
      subst (Runs (bare_setting x) calls n (view t)) is (right.answer is_r (λ w. limit_is_not_out_of_memory (sym is ∙ w))) in
      let above : n < height (view t) = restricted_need (bare_setting x) calls meet_none n (view t) is_r met in
      omega (arith, above, low)

-- ---- where nothing is unknown

nobody : EntityName
nobody = record { type_name = []; id = [] }

-- these extensions alone, and nothing unknown
abbrev nothing_else : world.Extensions → Setting
nothing_else x =
    record {
      request = record {
        principal_entry = known_entry nobody;
        action_entry = known_entry nobody;
        resource_entry = known_entry nobody;
        context_part = known_context no_represented_at;
      };
      store = record { entity = λ e. None; is_partial = false };
      map = λ n. None;
      slots = λ i. None;
      extensions = x;
      resolution = shallow;
    }

nothing_unknown : (x : world.Extensions) → HasNothingUnknown (nothing_else x)
nothing_unknown x = record {
  principal_known = tt;
  action_known = tt;
  resource_known = tt;
  context_known = tt;
  store_concrete = refl;
  store_known = λ e y k p h. absurd (cc);
}

any_values : Text → AbstractValue
any_values n = plain (bool_literal true)

module _ (x : world.Extensions) (calls : StoredCalls) (n : ℕ) (t : Expr) (r : Result PartialValue EvaluationError)
    (is_r : is_restricted (view t) ≡ true) (right : IsRight x calls n t r) where
  -- the answer is the meaning in every world
  pub known_exact : Meets (IsKnownExactly x calls (view t)) (partial_answer r)
  known_exact ok ans agree known below w slots =
      let s : Setting = nothing_else x in
      let runs : Runs s calls n (view t) (partial_answer r) =
      reads_nothing (bare_setting x) s calls refl refl n (view t) (partial_answer r) is_r (right.answer is_r ok) in
      let exact : IsExact calls ans (own_world s any_values) s n (view t) (partial_answer r) =
      answer_exact calls ans agree s (nothing_unknown x) any_values n (view t) (partial_answer r) known runs in
      subst (AnswersOutcome (partial_answer r))
      (meaning_unread x ans (own_world s any_values) w s.slots slots (view t) is_r known) (exact.meant below)

pub sound_part : (x : world.Extensions) (calls : StoredCalls) (n : ℕ) (t : Expr)
    (r : Result PartialValue EvaluationError) → is_restricted (view t) ≡ true → IsRight x calls n t r →
    ((f : Text) (vs : List Represented) (p : model.PartialValue) → calls f vs (answers p) → IsSoundPart p) →
    IfOk r (λ p. IsSoundPart (partial_view p))
sound_part x calls n t (Ok p) is_r right sound =
    stays_restricted (bare_setting x) calls (sound_answers x calls sound) (view t) (partial_view p) is_r
    (no_limit (partial_view p), n, right.answer is_r (never_out_of_memory (partial_view p)))
sound_part x calls n t (Err e) is_r right sound = tt

pub unknown_part : (r : Result PartialValue EvaluationError) → IfOk r (λ p. HoldsUnknown (partial_view p))
unknown_part (Ok (partials.Value v)) = tt
unknown_part (Ok (partials.Residual q)) = q.unknown
unknown_part (Err e) = tt

-- ---- values alone

module _ (s : Setting) (calls : StoredCalls) (n : ℕ) (t : Term) where
  pub value_within : (v : Represented) → Meets (IsAnswerWithin s calls n t) (answers (model.value v)) →
      IsValueWithin s calls n t (answers (model.value v))
  unfolding only_values
  value_within v h = (answers (model.value v), h (never_out_of_memory (model.value v)), refl)

  pub residual_within : (q : Term) (e : Failure) → e ≡ model.residual_is_left q →
      Meets (IsAnswerWithin s calls n t) (answers (model.residual q)) → IsValueWithin s calls n t (fails e)
  unfolding only_values
  residual_within q e is h = (answers (model.residual q), h (never_out_of_memory (model.residual q)), λ i. fails (is i))

  pub failure_within : (e : Failure) → fails e ≢ fails out_of_memory →
      Meets (IsAnswerWithin s calls n t) (fails e) → IsValueWithin s calls n t (fails e)
  unfolding only_values
  failure_within e ok h = (fails e, h ok, refl)

-- a residual that is left is no answer where nothing is unknown
pub residual_known : (x : world.Extensions) (calls : StoredCalls) (t q : Term) (e : Failure)
    → Meets (IsKnownExactly x calls t) (answers (model.residual q)) → Meets (IsKnownExactly x calls t) (fails e)
residual_known x calls t q e h ok ans agree known below w slots =
    absurd (h (never_out_of_memory (model.residual q)) ans agree known (no_limit (model.residual q)) w slots)
