-- One after another.
use Rattle.std.proofs.Common.{◌≡◌, suc, ◌+◌, List, [], ◌∷◌, ◌++◌, map, drop, sym, ap, ◌∙◌, arith}
use Rattle.std.proofs.Math.Seq.{drop-cons}
use Rattle.std.proofs.lemmas.List.{drop_all}
use Rattle.json.specs.Json.{Json}
use Rattle.cedar_json_writer.specs.Trees.{json_view}
use Rattle.cedar_json_writer.proofs.Trees.{view_array}
use Rattle.json.specs.Json.{array}
use Rattle.json.specs.Value.{items_of}
use Rattle.cedar_json_writer.proofs.Listed.{one_more, no_more}
use Rattle.cedar_places.specs.Texts.{text_in}
use Rattle.cedar_explain.specs.declared.lacks.Lack.{Lack}
use Rattle.cedar_explain_json.specs.Documents.{lack_json}
use Rattle.cedar_explain_json.proofs.lacks.lacks_to_json.Goals as goal

pub lacks-preserved : goal.lacks-preserved
lacks-preserved c =
    let f : Lack → Json = lack_json (text_in c.args.places.now) in
    let items = c.args.lacks.now in
    let i = c.lacks.lack-index in
    let item = c.lack-item.result in
    let more : suc i ≡ i + 1 = omega arith in
    let next : drop i items ≡ item ∷ drop (i + 1) items =
    drop-cons items i item c.lacks-test.true ∙ ap (λ p. p ∷ drop (suc i) items) (sym c.lack-item.is)
    ∙ ap (λ j. item ∷ drop j items) more in
    one_more (map json_view c.lacks.items.items) _ (map f items) (map f (drop i items)) (map f (drop (i + 1) items)) (f item)
    (ap (map f) next) c.in_ok-add_lack.ensures c.lacks.invariant

pub returns : goal.returns
returns c =
    let f : Lack → Json = lack_json (text_in c.args.places.now) in
    view_array c.lacks.items
    ∙ ap (λ js. array (items_of js))
    (no_more (map json_view c.lacks.items.items) (map f c.args.lacks.now) (map f (drop c.lacks.lack-index c.args.lacks.now))
    (ap (map f) (drop_all c.lacks.lack-index c.args.lacks.now c.lacks-test.false)) c.lacks.invariant)
