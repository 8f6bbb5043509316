use Rattle.std.proofs.Common.{◌≡◌, suc, ◌+◌, [], ◌∷◌, ◌++◌, drop, ap, sym, ◌∙◌, arith, append_assoc}
use Rattle.std.proofs.Math.Seq.{drop-cons}
use Rattle.std.proofs.lemmas.List.{drop_all, append-nil}
use Rattle.cedar_minimal_reasons.proofs.thinning.add_all.Goals as goal

pub each-preserved : goal.each-preserved
each-preserved c =
    let items = c.args.more.now in
    let i = c.each.fact-index in
    let item = c.fact-item.result in
    let more : suc i ≡ i + 1 = omega arith in
    let next : drop i items ≡ item ∷ drop (i + 1) items = drop-cons items i item c.each-test.true ∙ ap (λ p. p ∷ drop (suc i) items) (sym c.fact-item.is) ∙ ap (λ j. item ∷ drop j items) more in
    ap (λ xs. xs ++ drop (i + 1) items) c.in_ok-add_last.ensures.ok
    ∙ append_assoc c.each.facts.items (item ∷ []) (drop (i + 1) items)
    ∙ ap (λ l. c.each.facts.items ++ l) (sym next) ∙ c.each.invariant

pub returns : goal.returns
returns c =
    let none = drop_all c.each.fact-index c.args.more.now c.each-test.false in
    sym (append-nil c.each.facts.items) ∙ ap (λ l. c.each.facts.items ++ l) (sym none) ∙ c.each.invariant
