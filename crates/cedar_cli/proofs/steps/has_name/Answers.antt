use Rattle.std.proofs.Common.{◌≡◌, suc, ◌+◌, ◌∷◌, drop, ap, sym, ◌∙◌, arith}
use Rattle.std.proofs.Math.Seq.{drop-cons}
use Rattle.std.proofs.lemmas.List.{drop_all}
use Rattle.std.specs.Rc.{rc_str_bytes}
use Rattle.cedar_cli.proofs.Opening.{text_here, text_not_here, text_nowhere}
use Rattle.cedar_cli.proofs.steps.has_name.Goals as goal

pub returns-then-eq : goal.returns-then-eq
returns-then-eq c =
    let items = c.args.names.now in
    let i = c.names.other-index in
    let item = c.other-item.result in
    let next : drop i items ≡ item ∷ drop (suc i) items =
    drop-cons items i item c.names-test.true ∙ ap (λ p. p ∷ drop (suc i) items) (sym c.other-item.is) in
    sym (text_here (rc_str_bytes c.args.name.now) (drop i items) (drop (suc i) items) item next
    (sym c.eq.ensures ∙ c.if-eq.true)) ∙ c.names.invariant

pub names-preserved : goal.names-preserved
names-preserved c =
    let items = c.args.names.now in
    let i = c.names.other-index in
    let item = c.other-item.result in
    let more : suc i ≡ i + 1 = omega arith in
    let next : drop i items ≡ item ∷ drop (i + 1) items =
    drop-cons items i item c.names-test.true ∙ ap (λ p. p ∷ drop (suc i) items) (sym c.other-item.is)
    ∙ ap (λ j. item ∷ drop j items) more in
    sym (text_not_here (rc_str_bytes c.args.name.now) (drop i items) (drop (i + 1) items) item next
    (sym c.eq.ensures ∙ c.if-eq.false)) ∙ c.names.invariant

pub returns : goal.returns
returns c =
    sym (text_nowhere (rc_str_bytes c.args.name.now) (drop c.names.other-index c.args.names.now)
    (drop_all c.names.other-index c.args.names.now c.names-test.false)) ∙ c.names.invariant
