-- One line after another.
use Rattle.std.proofs.Common.{◌≡◌, suc, ◌+◌, List, [], ◌∷◌, ◌++◌, map, drop, append-nil, sym, ap, subst, ◌∙◌, arith, string_bytes, refl}
use Rattle.std.proofs.Math.Seq.{drop-cons}
use Rattle.std.proofs.lemmas.List.{drop_all}
use Rattle.cedar_model.specs.Terms.{Text}
use Rattle.cedar_explain_printer.specs.declared.lines.Line as declared
use Rattle.cedar_explain_printer.specs.Lines.{Line, line_view}
use Rattle.cedar_cli.specs.Explained.{AreToldLines}
use Rattle.cedar_cli.proofs.Explaining.{one_told}
use Rattle.cedar_cli.proofs.explanations.told_lines.Goals as goal

pub lines-init : goal.lines-init
lines-init c = λ t are.
    subst (λ (s : Text). AreToldLines c.args.places.now.source.text.now (map line_view c.args.lines.now) (s ++ t))
    (sym c.new-told.ensures.bytes) are

pub lines-preserved : goal.lines-preserved
lines-preserved c =
    let text = c.args.places.now.source.text.now in
    let items = c.args.lines.now in
    let i = c.lines.line-index in
    let item = c.line-item.result in
    let more : suc i ≡ i + 1 = omega arith in
    let next : drop i items ≡ item ∷ drop (i + 1) items =
    drop-cons items i item c.lines-test.true ∙ ap (λ p. p ∷ drop (suc i) items) (sym c.line-item.is)
    ∙ ap (λ j. item ∷ drop j items) more in
    one_told text (map line_view items) (map line_view (drop i items)) (map line_view (drop (i + 1) items)) (line_view item)
    (string_bytes c.lines.told) (string_bytes c.push_told_line.new.output)
    (ap (λ (ls : List declared.Line). map line_view ls) next) c.in_ok-push_told_line.ensures c.lines.invariant

pub returns : goal.returns
returns c =
    let text = c.args.places.now.source.text.now in
    let all = map line_view c.args.lines.now in
    let told = string_bytes c.lines.told in
    let none : drop c.lines.line-index c.args.lines.now ≡ [] =
    drop_all c.lines.line-index c.args.lines.now c.lines-test.false in
    subst (AreToldLines text all) (append-nil told)
    (c.lines.invariant []
    (subst (λ (ls : List declared.Line). AreToldLines text (map line_view ls) []) (sym none) refl))
