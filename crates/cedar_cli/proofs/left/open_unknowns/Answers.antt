use Rattle.std.proofs.Common.{◌≡◌, suc, ◌+◌, ◌∷◌, ◌++◌, drop, ap, sym, ◌∙◌, arith, map}
use Rattle.std.proofs.Math.Seq.{drop-cons}
use Rattle.std.proofs.lemmas.List.{drop_all}
use Rattle.std.specs.Rc.{rc_str_bytes}
use Rattle.cedar_unknowns.specs.Occurrences.{asked, asked_each}
use Rattle.cedar_cli.specs.Steps.{names_asked}
use Rattle.cedar_cli.proofs.Stepping.{assoc_one, append_none}
use Rattle.cedar_cli.proofs.left.open_unknowns.Goals as goal

pub unknowns-preserved : goal.unknowns-preserved
unknowns-preserved c =
    let items = c.args.unknowns.now in
    let i = c.unknowns.unknown-index in
    let item = c.unknown-item.result in
    let more : suc i ≡ i + 1 = omega arith in
    let next : drop i items ≡ item ∷ drop (i + 1) items =
    drop-cons items i item c.unknowns-test.true ∙ ap (λ p. p ∷ drop (suc i) items) (sym c.unknown-item.is)
    ∙ ap (λ j. item ∷ drop j items) more in
    let before = map rc_str_bytes c.unknowns.names.items in
    ap (λ l. l ++ names_asked (asked_each (drop (i + 1) items))) c.in_ok-open_unknown.ensures
    ∙ assoc_one before (asked item).0 (names_asked (asked_each (drop (i + 1) items)))
    ∙ ap (λ us. before ++ names_asked (asked_each us)) (sym next) ∙ c.unknowns.invariant

pub returns : goal.returns
returns c =
    let before = map rc_str_bytes c.unknowns.names.items in
    sym (append_none before)
    ∙ ap (λ us. before ++ names_asked (asked_each us))
    (sym (drop_all c.unknowns.unknown-index c.args.unknowns.now c.unknowns-test.false)) ∙ c.unknowns.invariant
