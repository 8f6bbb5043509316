use Rattle.std.proofs.Common.{ap, sym, ◌∙◌}
use Rattle.cedar_requests.specs.Contexts.{context_keys}
use Rattle.cedar_reasons.specs.Facts.{facts_view}
use Rattle.cedar_reasons.specs.Reduced.{keeps_names}
use Rattle.cedar_reasons.specs.Held.{held_view}
use Rattle.cedar_reasons.proofs.KeptNames.{value_names, expr_names}
use Rattle.cedar_reasons.proofs.contexts.keeps_values.Goals as goal

pub returns-in-Values : goal.returns-in-Values
returns-in-Values c =
    let fs = facts_view c.args.facts.now in
    c.keeps_names.ensures ∙ ap (keeps_names fs) (sym (value_names c.in-Values.values.now.entries))
    ∙ sym (ap (λ h. keeps_names fs (context_keys (held_view h))) c.in-Values.is)

pub returns-in-Residual : goal.returns-in-Residual
returns-in-Residual c =
    let fs = facts_view c.args.facts.now in
    c.keeps_names-in-Residual.ensures ∙ ap (keeps_names fs) (sym (expr_names c.in-Residual.pairs.now.entries))
    ∙ sym (ap (λ h. keeps_names fs (context_keys (held_view h))) c.in-Residual.is)
