-- The record that a context is, as a term.
use Rattle.std.proofs.Common.{◌≡◌, None, refl}
use Rattle.cedar_model.specs.Terms.{record_of}
use Rattle.cedar_model.specs.Settings.{context_value}
use Rattle.cedar_names.specs.Texts.{shown}
use Rattle.cedar_values.specs.Residuals.{partial_term}
use Rattle.cedar_requests.specs.declared.context.pairs.ContextPairs.{ContextPairs}
use Rattle.cedar_requests.specs.declared.context.pairs.ContextPairs.TheVariants as kinds
use Rattle.cedar_requests.specs.Contexts.{context_pairs_view, pairs_terms}
use Rattle.cedar_requests.specs.Texts.{context_text}

pub record_of-pairs : (p : ContextPairs) → partial_term (context_value (context_pairs_view p)) ≡ record_of (pairs_terms p)
unfolding context_value
record_of-pairs (kinds.Values m) = refl
record_of-pairs (kinds.Residual r) = refl

-- a context prints as that record
pub context_text-pairs : (p : ContextPairs) → context_text (context_pairs_view p)
    ≡ shown None (partial_term (context_value (context_pairs_view p)))
unfolding context_value
context_text-pairs (kinds.Values m) = refl
context_text-pairs (kinds.Residual r) = refl
