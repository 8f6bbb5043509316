-- Where functions answer no extension value, what restricted expressions answer holds none.
use Rattle.std.specs.Prelude.{ℕ}
use Rattle.cedar_model.specs.World as model
use Rattle.cedar_model.specs.Settings.{ContextPart, absent_context, known_context, residual_context, context_value}
use Rattle.cedar_model.specs.Rules.{StoredCalls}
use Rattle.cedar_model.proofs.Injections.{none_is_not_some}
use Rattle.cedar_laws.specs.Faithful.{PartHoldsNoExtensionValue, ContextHoldsNoExtensionValue, AnswerNoExtensionValue}
use Rattle.cedar_laws.proofs.HoldingNone.{holds_none}
use Rattle.cedar_restricted.specs.Evaluations.{bare_setting}
use Rattle.cedar_faithful.proofs.Evaluated.{EachAnswerIs}

-- the part of a context holds none, so the context does
pub context_holds : (c : ContextPart) → PartHoldsNoExtensionValue (context_value c) → ContextHoldsNoExtensionValue c
unfolding context_value
context_holds absent_context h = tt
context_holds (known_context fs) h = h
context_holds (residual_context fs) h = tt

pub each_answer_holds : (x : model.Extensions) (calls : StoredCalls) → AnswerNoExtensionValue calls → (n : ℕ)
    → EachAnswerIs PartHoldsNoExtensionValue x calls n
each_answer_holds x calls none n t p r h =
    (holds_none calls (bare_setting x) none (λ k v e. absurd (none_is_not_some e)) t p r).0 n h.runs
