-- Where it stands, what it is, what it came to, and its operands.
use Rattle.std.proofs.Common.{refl, ap, subst, ◌∙◌, List, [], ◌∷◌, ◌++◌}
use Rattle.json.specs.Json.{object, string}
use Rattle.cedar_model.specs.Terms.{Term, Text}
use Rattle.cedar_expressions.specs.View.{view}
use Rattle.cedar_layers.specs.Policies.{slots_view}
use Rattle.cedar_json_writer.proofs.Trees.{view_object}
use Rattle.cedar_json_writer.specs.Trees.{members_seen, members_of}
use Rattle.cedar_places.specs.Texts.{text_in}
use Rattle.cedar_explain.specs.Reached.{IsReached}
use Rattle.cedar_explain.specs.Views.{part_told, part_place}
use Rattle.cedar_explain_json.specs.Documents.{HasOperands, place_members, text_member}
use Rattle.cedar_explain_json.specs.Words.{part_outcome}
use Rattle.cedar_explain_json.proofs.Ordered.{four_put}
use Rattle.cedar_explain_json.proofs.parts.part_to_json.Goals as goal

pub returns : goal.returns
returns g c =
    let p = c.args.part.now in
    let text = text_in c.args.places.now in
    let (ms, has, put) = c.in_ok-put_operands.ensures in (
      ms,
      subst (λ (t : Term). HasOperands c.args.has_values (IsReached c.args.evaluator.now (slots_view c.args.slots.now)) t ms)
          c.expression-2.ensures has,
      view_object c.put_operands.new.members
          ∙ ap (λ all. object (members_of all))
          (four_put _ _ _ _ _ (place_members text (part_place p))
          (text_member (part_told p).term ∷ []) (part_outcome c.args.has_values (part_told p).answer) ms
          (ap members_seen c.new-members.ensures.items)
          (c.in_ok-put_place.ensures
          ∙ ap (λ o. members_seen c.new-members.result.items ++ place_members text o)
          (c.copied.ensures ∙ c.place.ensures))
          (c.in_ok-put_expression.ensures
          ∙ ap (λ (t : Term). members_seen c.put_place.new.members.items ++ text_member t ∷ []) c.expression.ensures)
          c.in_ok-put_part_outcome.ensures put),
    )
