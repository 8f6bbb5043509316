use Rattle.std.proofs.Common.{◌≡◌, suc, ◌+◌, List, [], ◌∷◌, ◌++◌, map, drop, append-nil, sym, ap, subst, ◌∙◌, arith}
use Rattle.std.proofs.Math.Seq.{drop-cons}
use Rattle.std.proofs.lemmas.List.{drop_all}
use Rattle.json.specs.Json.{Json}
use Rattle.cedar_json_writer.specs.Trees.{json_view}
use Rattle.cedar_json_writer.proofs.Trees.{view_array}
use Rattle.cedar_cli.specs.Documents.{ArePlacedErrors}
use Rattle.cedar_cli.proofs.Stepping.{assoc_one}
use Rattle.cedar_cli.proofs.documents.errors_as_json.Goals as goal

pub errors-preserved : goal.errors-preserved
errors-preserved c = λ js rest.
    let text = c.args.deciding.places.now.source.text.now in
    let items = c.args.errors.now in
    let i = c.errors.error-index in
    let item = c.error-item.result in
    let more : suc i ≡ i + 1 = omega arith in
    let next : drop i items ≡ item ∷ drop (i + 1) items =
    drop-cons items i item c.errors-test.true ∙ ap (λ p. p ∷ drop (suc i) items) (sym c.error-item.is)
    ∙ ap (λ j. item ∷ drop j items) more in
    let (j, is, put) = c.in_ok-put_error_item.ensures in
    subst (ArePlacedErrors text items)
    (sym (ap (λ (l : List Json). l ++ js) put ∙ assoc_one (map json_view c.errors.items.items) j js))
    (c.errors.invariant (j ∷ js) (subst (λ es. ArePlacedErrors text es (j ∷ js)) (sym next) (is, rest)))

pub returns : goal.returns
returns c =
    let text = c.args.deciding.places.now.source.text.now in
    let items = map json_view c.errors.items.items in
    let none : drop c.errors.error-index c.args.errors.now ≡ [] =
    drop_all c.errors.error-index c.args.errors.now c.errors-test.false in
    let each = c.errors.invariant [] (subst (λ es. ArePlacedErrors text es []) (sym none) tt) in
    (items, subst (ArePlacedErrors text c.args.errors.now) (append-nil items) each, view_array c.errors.items)
