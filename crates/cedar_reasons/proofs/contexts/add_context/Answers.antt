use Rattle.std.proofs.Common.{refl, ap, sym, ◌∙◌}
use Rattle.cedar_requests.specs.Contexts.{context_keys}
use Rattle.cedar_restricted.proofs.Collected.{names_under}
use Rattle.cedar_reasons.specs.Facts.{facts_view}
use Rattle.cedar_reasons.proofs.KeptNames.{value_names, expr_names}
use Rattle.cedar_reasons.proofs.Listed.{fact_more, context_added}
use Rattle.cedar_reasons.proofs.contexts.add_context.Goals as goal

pub returns-in_ok-add_names-in-Values : goal.returns-in_ok-add_names-in-Values
returns-in_ok-add_names-in-Values c =
    let es = c.in-Values.values.now.entries in
    context_added (facts_view c.args.facts.now.items) _ _ (names_under es) _
    (fact_more c.args.facts.now.items _ _ _ c.in_ok-add_last.ensures.ok refl) c.in_ok-add_names-in-Values.ensures
    (ap context_keys (sym c.in-Values.ensures.view) ∙ value_names es)

pub returns-in_ok-add_names-in-Residual : goal.returns-in_ok-add_names-in-Residual
returns-in_ok-add_names-in-Residual c =
    let es = c.in-Residual.pairs.now.entries in
    context_added (facts_view c.args.facts.now.items) _ _ (names_under es) _
    (fact_more c.args.facts.now.items _ _ _ c.in_ok-add_last.ensures.ok refl) c.in_ok-add_names-in-Residual.ensures
    (ap context_keys (sym c.in-Residual.ensures.view) ∙ expr_names es)
