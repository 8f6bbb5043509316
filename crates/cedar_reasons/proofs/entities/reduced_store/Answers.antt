use Rattle.std.proofs.Common.{not, sym, ap, ◌∙◌}
use Rattle.cedar_reasons.specs.Facts.{facts_view, lent}
use Rattle.cedar_reasons.proofs.Kept.{kept_are}
use Rattle.cedar_reasons.proofs.entities.reduced_store.Goals as goal

pub returns : goal.returns
returns c =
    c.in_ok-with.ensures.view
    ∙ (λ i. record {
      entity = (sym c.in_ok-kept.ensures ∙ kept_are (facts_view c.args.facts.now) (lent c.args.entities.now)) i;
      is_partial = ap not c.is_whole.ensures i;
    })
