use Rattle.std.proofs.Common.{◌≡◌, map, IfOk, ap, subst, ◌∙◌}
use Rattle.std.specs.Prelude.{codes}
use Rattle.std.proofs.lemmas.List.{drop_all}
use Rattle.json.specs.Json.{Json, array, object}
use Rattle.json.specs.Value.{items_of}
use Rattle.cedar_expressions.specs.View.{terms_view, fields_view}
use Rattle.cedar_layers.specs.Policies.{slots_view}
use Rattle.cedar_json_writer.specs.Trees.{json_view, members_of}
use Rattle.cedar_json_writer.specs.Written.{sole_member}
use Rattle.cedar_json_writer.proofs.Trees.{view_array, view_object}
use Rattle.cedar_policy_json_writer.proofs.Lists.{no_more}
use Rattle.cedar_policy_json_writer.proofs.Parts.{part_json, pair_json, items_written, members_written}
use Rattle.cedar_policy_json_writer.proofs.expressions.+expression.Goals as goal

pub list_to_json-returns : goal.list_to_json-returns
list_to_json-returns t c =
    let s = slots_view c.args.slots.now in
    let es = c.args.parts.now in
    let whole = no_more _ _ _ (ap (map (part_json s)) (drop_all c.parts.part-index es c.parts-test.false)) c.parts.invariant in
    let same = view_array c.parts.items ∙ ap array (ap items_of whole ∙ items_written s es) in
    subst (λ (i : Json). IfOk c.object_of.result (λ j. json_view j ≡ sole_member c.args.name.now i)) same c.object_of.ensures

pub record_to_json-returns : goal.record_to_json-returns
record_to_json-returns t c =
    let s = slots_view c.args.slots.now in
    let es = c.args.pairs.now.entries in
    let whole = no_more _ _ _ (ap (map (pair_json s)) c.in-None.ensures.steps.0) c.pairs.invariant in
    let same = view_object c.pairs.members ∙ ap object (ap members_of whole ∙ members_written s es) in
    subst (λ (i : Json). IfOk c.object_of.result (λ j. json_view j ≡ sole_member (codes "Record") i)) same c.object_of.ensures
