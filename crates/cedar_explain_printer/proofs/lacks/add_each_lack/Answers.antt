-- One after another.
use Rattle.std.proofs.Common.{◌≡◌, suc, ◌+◌, [], ◌∷◌, ◌++◌, map, drop, sym, ap, ◌∙◌, arith, List}
use Rattle.std.proofs.Math.Seq.{drop-cons}
use Rattle.std.proofs.lemmas.List.{drop_all}
use Rattle.cedar_explain.specs.declared.lacks.Lack.{Lack}
use Rattle.cedar_explain_printer.specs.Lines.{Line, line_view, lack_line}
use Rattle.cedar_explain_printer.proofs.Listing.{goes_on, no_more}
use Rattle.cedar_explain_printer.proofs.lacks.add_each_lack.Goals as goal

pub lacks-preserved : goal.lacks-preserved
lacks-preserved c =
    let items = c.args.lacks.now in
    let i = c.lacks.lack-index in
    let item = c.lack-item.result in
    let more : suc i ≡ i + 1 = omega arith in
    let next : drop i items ≡ item ∷ drop (i + 1) items =
    drop-cons items i item c.lacks-test.true ∙ ap (λ p. p ∷ drop (suc i) items) (sym c.lack-item.is)
    ∙ ap (λ j. item ∷ drop j items) more in
    goes_on _ _ _ (lack_line item ∷ []) (map lack_line (drop (i + 1) items)) _ c.in_ok-add_lack.ensures
    (ap (λ (xs : List Lack). map lack_line xs) next) c.lacks.invariant

pub returns : goal.returns
returns c =
    no_more _ _ _ (ap (λ (xs : List Lack). map lack_line xs) (drop_all c.lacks.lack-index c.args.lacks.now c.lacks-test.false))
    c.lacks.invariant
