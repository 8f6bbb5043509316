-- The pairs of a context that a function has opened.
use Rattle.std.proofs.Common.{◌≡◌, ap, sym, ◌∙◌}
use Rattle.cedar_requests.specs.declared.context.pairs.ContextPairs.{ContextPairs}
use Rattle.cedar_requests.specs.ContextFields.{ContextFields}

-- what was found inside is what the context as it is handed in has
pub opened : {inside whole : ContextFields} {pairs : ContextPairs} → inside ≡ whole → inside.pairs ≡ pairs → whole.pairs ≡ pairs
opened same is = sym (ap (λ (x : ContextFields). x.pairs) same) ∙ is
