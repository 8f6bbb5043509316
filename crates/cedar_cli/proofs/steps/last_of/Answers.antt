use Rattle.std.proofs.Common.{◌≡◌, suc, ◌+◌, ◌∷◌, drop, ap, sym, ◌∙◌, arith}
use Rattle.std.proofs.Math.Seq.{drop-cons}
use Rattle.std.proofs.lemmas.List.{drop_all}
use Rattle.cedar_cli.specs.Stages.{last_in}
use Rattle.cedar_cli.proofs.steps.last_of.Goals as goal

pub later-preserved : goal.later-preserved
later-preserved c =
    let items = c.args.later.now in
    let i = c.later.taken-index in
    let item = c.taken-item.result in
    let more : suc i ≡ i + 1 = omega arith in
    let next : drop i items ≡ item ∷ drop (i + 1) items =
    drop-cons items i item c.later-test.true ∙ ap (λ p. p ∷ drop (suc i) items) (sym c.taken-item.is)
    ∙ ap (λ j. item ∷ drop j items) more in
    ap (λ r. last_in r (drop (i + 1) items)) c.response_after-last.ensures
    ∙ ap (last_in c.later.last.now) (sym next) ∙ c.later.invariant

pub returns : goal.returns
returns c =
    let none = drop_all c.later.taken-index c.args.later.now c.later-test.false in
    sym (ap (last_in c.later.last.now) none) ∙ c.later.invariant
