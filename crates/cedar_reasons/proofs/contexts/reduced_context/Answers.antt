use Rattle.std.proofs.Common.{ap, sym, ◌∙◌}
use Rattle.cedar_model.specs.Shapes.{are_restricted_at, have_unknown_at}
use Rattle.cedar_reasons.specs.Facts.{facts_view}
use Rattle.cedar_reasons.specs.Reduced.{context_terms, keeps_names}
use Rattle.cedar_reasons.specs.Held.{held_view}
use Rattle.cedar_reasons.proofs.KeptNames.{term_names, reduced_restricted, reduced_unknown}
use Rattle.cedar_reasons.proofs.contexts.reduced_context.Goals as goal

pub from_residual-requires-else-keeps_values-clause-restricted : goal.from_residual-requires-else-keeps_values-clause-restricted
from_residual-requires-else-keeps_values-clause-restricted c =
    ap are_restricted_at c.in_ok-reduced_pairs.ensures
    ∙ reduced_restricted (facts_view c.args.facts.now) (context_terms (held_view c.pairs_of-lent.result)) c.pairs_of-lent.ensures.restricted

pub from_residual-requires-else-keeps_values-clause-unknown : goal.from_residual-requires-else-keeps_values-clause-unknown
from_residual-requires-else-keeps_values-clause-unknown c =
    let fs = facts_view c.args.facts.now in
    let part = held_view c.pairs_of-lent.result in
    ap have_unknown_at c.in_ok-reduced_pairs.ensures
    ∙ reduced_unknown fs (context_terms part) (ap (keeps_names fs) (term_names part) ∙ sym c.keeps_values.ensures ∙ c.if-keeps_values.false)
