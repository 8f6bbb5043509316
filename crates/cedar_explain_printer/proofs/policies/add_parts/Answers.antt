-- One part after another.
use Rattle.std.proofs.Common.{◌≡◌, suc, ◌+◌, [], ◌∷◌, ◌++◌, map, drop, sym, ap, ◌∙◌, arith, List}
use Rattle.std.proofs.Math.Seq.{drop-cons}
use Rattle.std.proofs.lemmas.List.{drop_all}
use Rattle.cedar_explain.specs.declared.parts.Part.{Part}
use Rattle.cedar_explain_printer.specs.Lines.{Line, line_view, part_line}
use Rattle.cedar_explain_printer.proofs.Listing.{goes_on, no_more}
use Rattle.cedar_explain_printer.proofs.policies.add_parts.Goals as goal

pub parts-preserved : goal.parts-preserved
parts-preserved c =
    let f : Part → Line = part_line c.args.has_values in
    let items = c.args.parts.now in
    let i = c.parts.part-index in
    let item = c.part-item.result in
    let more : suc i ≡ i + 1 = omega arith in
    let next : drop i items ≡ item ∷ drop (i + 1) items =
    drop-cons items i item c.parts-test.true ∙ ap (λ p. p ∷ drop (suc i) items) (sym c.part-item.is)
    ∙ ap (λ j. item ∷ drop j items) more in
    goes_on _ _ _ (f item ∷ []) (map f (drop (i + 1) items)) _ c.in_ok-add_part.ensures
    (ap (λ (xs : List Part). map f xs) next) c.parts.invariant

pub returns : goal.returns
returns c =
    let f : Part → Line = part_line c.args.has_values in
    no_more _ _ _ (ap (λ (xs : List Part). map f xs) (drop_all c.parts.part-index c.args.parts.now c.parts-test.false)) c.parts.invariant
