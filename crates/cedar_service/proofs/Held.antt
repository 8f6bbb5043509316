-- Contexts that hold no unknown.
use Rattle.std.proofs.Common.{◌≡◌, refl, is_some}
use Rattle.cedar_requests.specs.declared.context.Context.{Context}
use Rattle.cedar_requests.specs.declared.context.pairs.ContextPairs.{ContextPairs}
use Rattle.cedar_requests.specs.declared.context.pairs.ContextPairs.TheVariants as kinds
use Rattle.cedar_requests.specs.Contexts.{context_pairs, context_pairs_view, pairs_values, context_values, context_view}
use Rattle.cedar_service.specs.Asked.{is_known_part}

pairs_held : (p : ContextPairs) → is_some (pairs_values p) ≡ is_known_part (context_pairs_view p)
pairs_held (kinds.Values m) = refl
pairs_held (kinds.Residual r) = refl

pub values_held : (c : Context) → is_some (context_values c) ≡ is_known_part (context_view c)
values_held c = pairs_held (context_pairs c)

pub ruleset held = (values_held)
