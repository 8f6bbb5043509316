use Rattle.std.proofs.Common.{◌≡◌, ◌∷◌, ◌+◌, suc, drop, sym, ap, ◌∙◌, arith}
use Rattle.std.proofs.Math.Seq.{drop-cons}
use Rattle.std.proofs.lemmas.List.{drop_all}
use Rattle.cedar_layers.specs.Stores.{no_entities, with_entities}
use Rattle.cedar_reasons.specs.Facts.{facts_view, lent}
use Rattle.cedar_reasons.specs.Kept.{are_kept}
use Rattle.cedar_reasons.proofs.entities.kept_entities.Goals as goal

pub entities-init : goal.entities-init
entities-init c = ap (λ es. are_kept (facts_view c.args.facts.now) (with_entities no_entities es) (lent c.args.entities.now)) c.new-kept.ensures.items

pub entities-preserved : goal.entities-preserved
entities-preserved c =
    let items = c.args.entities.now in
    let i = c.entities.entity-index in
    let item = c.entity-item.result in
    let fs = facts_view c.args.facts.now in
    let more : suc i ≡ i + 1 = omega arith in
    let next : drop i items ≡ item ∷ drop (i + 1) items = drop-cons items i item c.entities-test.true ∙ ap (λ p. p ∷ drop (suc i) items) (sym c.entity-item.is) ∙ ap (λ j. item ∷ drop j items) more in
    ap (λ h. are_kept fs h (lent (drop (i + 1) items))) c.in_ok-add_kept.ensures
    ∙ sym (ap (λ es. are_kept fs (with_entities no_entities c.entities.kept.items) (lent es)) next) ∙ c.entities.invariant

pub returns : goal.returns
returns c =
    let none = drop_all c.entities.entity-index c.args.entities.now c.entities-test.false in
    sym c.entities.invariant ∙ ap (λ es. are_kept (facts_view c.args.facts.now) (with_entities no_entities c.entities.kept.items) (lent es)) none
