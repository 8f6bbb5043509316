-- How high a context is, by its values or its residual.
use Rattle.std.proofs.Common.{◌≡◌, ◌∙◌, ℕ, None, Some, ap}
use Rattle.std.proofs.lemmas.Option.{same_Some}
use Rattle.cedar_model.specs.Terms.{record_of}
use Rattle.cedar_model.specs.Values.{expressions_at}
use Rattle.cedar_model.specs.Agreement.{height}
use Rattle.cedar_expressions.specs.View.{fields_view}
use Rattle.cedar_values.specs.Sound.{whats_at}
use Rattle.cedar_requests.specs.declared.context.Context.{Context}
use Rattle.cedar_requests.specs.declared.context.pairs.ContextPairs.{ContextPairs}
use Rattle.cedar_requests.specs.declared.context.pairs.ContextPairs.TheVariants as kinds
use Rattle.cedar_requests.specs.Contexts.{ExprMap, ValueMap, context_view, context_values, context_residual}
use Rattle.cedar_requests.specs.Contexts.{context_pairs_view, pairs_values, pairs_residual}
use Rattle.cedar_heights.specs.Capped.{capped}
use Rattle.cedar_heights.specs.Limits.{context_height}

by_values : (p : ContextPairs) (m : ValueMap) → Some m ≡ pairs_values p →
    height (record_of (expressions_at (whats_at m.entries))) ≡ context_height (context_pairs_view p)
by_values (kinds.Values n) m is =
    ap (λ (v : ValueMap). height (record_of (expressions_at (whats_at v.entries)))) (same_Some m n is)
by_values (kinds.Residual r) m is = absurd (cc)

by_residual : (p : ContextPairs) (m : ExprMap) → Some m ≡ pairs_residual p →
    height (record_of (fields_view m.entries)) ≡ context_height (context_pairs_view p)
by_residual (kinds.Values n) m is = absurd (cc)
by_residual (kinds.Residual r) m is =
    ap (λ (v : ExprMap). height (record_of (fields_view v.entries))) (same_Some m r.pairs is)

pub values_told : (c : Context) (m : ValueMap) (n : ℕ) → Some m ≡ context_values c →
    n ≡ capped (height (record_of (expressions_at (whats_at m.entries)))) → n ≡ capped (context_height (context_view c))
values_told c m n is told = told ∙ ap capped (by_values c.pairs m is)

pub residual_told : (c : Context) (m : ExprMap) (n : ℕ) → Some m ≡ context_residual c →
    n ≡ capped (height (record_of (fields_view m.entries))) → n ≡ capped (context_height (context_view c))
residual_told c m n is told = told ∙ ap capped (by_residual c.pairs m is)

neither : {A : Type 0} (p : ContextPairs) → None ≡ pairs_values p → None ≡ pairs_residual p → A
neither (kinds.Values n) f g = absurd (cc)
neither (kinds.Residual r) f g = absurd (cc)

pub one_of_both : {A : Type 0} (c : Context) → None ≡ context_values c → None ≡ context_residual c → A
one_of_both c f g = neither c.pairs f g
