-- One part after another.
use Rattle.std.proofs.Common.{◌≡◌, suc, ◌+◌, List, ◌∷◌, ◌++◌, map, drop, sym, ap, ◌∙◌, arith}
use Rattle.std.proofs.Math.Seq.{drop-cons}
use Rattle.std.proofs.lemmas.List.{drop_all}
use Rattle.json.specs.Json.{Json}
use Rattle.cedar_json_writer.specs.Trees.{json_view}
use Rattle.cedar_json_writer.proofs.Trees.{view_array}
use Rattle.cedar_layers.specs.Policies.{slots_view}
use Rattle.cedar_places.specs.Texts.{text_in}
use Rattle.cedar_explain.specs.declared.parts.Part.{Part}
use Rattle.cedar_explain.specs.Reached.{IsReached}
use Rattle.cedar_explain_json.specs.Documents.{IsPartJson}
use Rattle.cedar_explain_json.proofs.Each.{each_more, each_all}
use Rattle.cedar_explain_json.proofs.parts.parts_to_json.Goals as goal

pub parts-preserved : goal.parts-preserved
parts-preserved g c =
    let Is : Part → Json → Type 0 = IsPartJson (text_in c.args.places.now) c.args.has_values
    (IsReached c.args.evaluator.now (slots_view c.args.slots.now)) in
    let items = c.args.parts.now in
    let i = c.parts.part-index in
    let item = c.part-item.result in
    let more : suc i ≡ i + 1 = omega arith in
    let next : drop i items ≡ item ∷ drop (i + 1) items =
    drop-cons items i item c.parts-test.true ∙ ap (λ p. p ∷ drop (suc i) items) (sym c.part-item.is)
    ∙ ap (λ j. item ∷ drop j items) more in
    each_more Is items (drop i items) (drop (i + 1) items) item _ _ next c.in_ok-add_part.ensures c.parts.invariant

pub returns : goal.returns
returns g c =
    let Is : Part → Json → Type 0 = IsPartJson (text_in c.args.places.now) c.args.has_values
    (IsReached c.args.evaluator.now (slots_view c.args.slots.now)) in
    let items = c.args.parts.now in (
      map json_view c.parts.items.items,
      each_all Is items (drop c.parts.part-index items) (map json_view c.parts.items.items)
          (drop_all c.parts.part-index items c.parts-test.false) c.parts.invariant,
      view_array c.parts.items,
    )
