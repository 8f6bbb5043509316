-- Where functions answer faithfully, what is evaluated beside extensions alone is faithful.
use Rattle.std.specs.Prelude.{◌≡◌, ℕ, true}
use Rattle.std.proofs.Common.{subst, sym}
use Rattle.cedar_model.specs.Terms.{Term}
use Rattle.cedar_model.specs.Values.{Represented}
use Rattle.cedar_model.specs.World as model
use Rattle.cedar_model.specs.Shapes.{is_restricted}
use Rattle.cedar_model.specs.Failures.{Answer, value, residual, answers, fails}
use Rattle.cedar_model.specs.Settings.{ContextPart, absent_context, known_context, residual_context, context_value}
use Rattle.cedar_model.specs.Rules.{StoredCalls}
use Rattle.cedar_model.specs.Agreement.{IsFaithful, IsFaithfulPart, IsFaithfulContext, AnswerFaithfully}
use Rattle.cedar_model.proofs.Injections.{none_is_not_some}
use Rattle.cedar_restricted.specs.Evaluations.{IsAnswerWithin, IsValueWithin, bare_setting, only_values}
use Rattle.cedar_faithful.proofs.FaithfulAnswers.{restricted_faithful}
use Rattle.cedar_faithful.proofs.Evaluated.{EachAnswerIs}

-- what a part answers as a value is the part
only_value : (a : Answer) (v : Represented) → answers (value v) ≡ only_values a → a ≡ answers (value v)
unfolding only_values
only_value (answers (value w)) v e = sym e
only_value (answers (residual t)) v e = absurd (cc)
only_value (fails f) v e = absurd (cc)

module _ (x : model.Extensions) (ans : model.Functions) where
  -- the part of a context is faithful, so the context is
  pub context_faithful : (c : ContextPart) → IsFaithfulPart x ans (context_value c) → IsFaithfulContext x ans c
  unfolding context_value
  context_faithful absent_context h = tt
  context_faithful (known_context fs) h = h
  context_faithful (residual_context fs) h = tt

  module _ (calls : StoredCalls) (faithful : AnswerFaithfully x ans calls) where
    pub each_answer_faithful : (n : ℕ) → EachAnswerIs (IsFaithfulPart x ans) x calls n
    each_answer_faithful n t p r h =
        restricted_faithful x ans (bare_setting x) calls faithful (λ k v e. absurd (none_is_not_some e)) n t p r h.runs

    pub value_within_faithful : (n : ℕ) (t : Term) (v : Represented) → is_restricted t ≡ true
        → IsValueWithin (bare_setting x) calls n t (answers (value v)) → IsFaithful x ans v
    value_within_faithful n t v r (b, h, e) =
        each_answer_faithful n t (value v) r (subst (IsAnswerWithin (bare_setting x) calls n t) (only_value b v e) h)
