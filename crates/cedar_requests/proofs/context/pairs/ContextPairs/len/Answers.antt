use Rattle.std.proofs.Common.{◌∙◌, sym, ap, length, btree_map_len}
use Rattle.cedar_requests.specs.LeftPairs.{LeftPairs}
use Rattle.cedar_requests.specs.Contexts.{ValueMap, context_pairs_view, context_keys}
use Rattle.cedar_requests.proofs.Names.{represented_names-count, field_names-count}
use Rattle.cedar_requests.proofs.context.pairs.ContextPairs.len.Goals as goal

pub returns-in-Values : goal.returns-in-Values
returns-in-Values c =
    c.len.ensures.len ∙ ap (λ (m : ValueMap). btree_map_len m) c.as_map.ensures
    ∙ sym (ap (λ p. length (context_keys (context_pairs_view p))) c.in-Values.is
    ∙ represented_names-count c.in-Values.values.entries)

pub returns-in-Residual : goal.returns-in-Residual
returns-in-Residual c =
    c.len-in-Residual.ensures.len ∙ ap (λ (r : LeftPairs). btree_map_len r.pairs) c.residual.view_is
    ∙ sym (ap (λ p. length (context_keys (context_pairs_view p))) c.in-Residual.is
    ∙ field_names-count c.in-Residual.residual.pairs.entries)
