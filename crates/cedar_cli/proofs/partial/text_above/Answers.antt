use Rattle.std.proofs.Common.{◌≡◌, refl, suc, ◌+◌, ◌∷◌, drop, ap, sym, ◌∙◌, arith, string_bytes}
use Rattle.std.proofs.Math.Seq.{drop-cons}
use Rattle.std.proofs.lemmas.List.{drop_all}
use Rattle.cedar_cli.proofs.Staged.{no_words_yet, word_more, words_of_all}
use Rattle.cedar_cli.proofs.partial.text_above.Goals as goal

pub later-init : goal.later-init
later-init c = no_words_yet c.args.first.now c.args.later.now c.args.later.now c.args.first.now
    (string_bytes c.new-above.result) refl refl c.new-above.ensures.bytes

pub later-preserved : goal.later-preserved
later-preserved c =
    let items = c.args.later.now in
    let i = c.later.taken-index in
    let item = c.taken-item.result in
    let more : suc i ≡ i + 1 = omega arith in
    let next : drop i items ≡ item ∷ drop (i + 1) items =
    drop-cons items i item c.later-test.true ∙ ap (λ p. p ∷ drop (suc i) items) (sym c.taken-item.is)
    ∙ ap (λ j. item ∷ drop j items) more in
    word_more c.args.first.now items item (drop i items) (drop (i + 1) items) c.later.response.now _
    (string_bytes c.later.above) _ next c.later.invariant c.in_ok-push_stage.ensures c.response_after-response.ensures

pub returns : goal.returns
returns c =
    words_of_all c.args.first.now c.args.later.now (drop c.later.taken-index c.args.later.now) c.later.response.now
    (string_bytes c.later.above) (drop_all c.later.taken-index c.args.later.now c.later-test.false) c.later.invariant
