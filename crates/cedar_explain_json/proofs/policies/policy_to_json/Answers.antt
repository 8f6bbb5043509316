-- What is said of it, and its parts.
use Rattle.std.proofs.Common.{ap, subst, ◌∙◌, List, [], ◌∷◌, ◌++◌, codes}
use Rattle.json.specs.Json.{object}
use Rattle.cedar_model.specs.World.{Slots}
use Rattle.cedar_json_writer.proofs.Trees.{view_object}
use Rattle.cedar_json_writer.specs.Trees.{json_view, members_seen, members_of}
use Rattle.cedar_layers.specs.declared.policies.policy.Policy.{Policy}
use Rattle.cedar_layers.specs.Policies.{policy_view, slots_view}
use Rattle.cedar_places.specs.Texts.{text_in}
use Rattle.cedar_explain.specs.declared.parts.Part.{Part}
use Rattle.cedar_explain.specs.declared.explanations.Explanation.{Explanation}
use Rattle.cedar_explain.specs.Reached.{IsReached}
use Rattle.cedar_explain.specs.Requests.{explanation_of}
use Rattle.cedar_explain.specs.Views.{explained_parts}
use Rattle.cedar_explain_json.specs.Documents.{IsArrayOfParts}
use Rattle.cedar_explain_json.proofs.policies.policy_to_json.Goals as goal

pub put_head-requires : goal.put_head-requires
put_head-requires g c = ap members_seen c.new-members.ensures.items

pub returns : goal.returns
returns g c =
    let text = text_in c.args.places.now in
    let x = c.args.explained.now in
    let j = json_view c.in_ok-parts.parts in
    let v = c.args.evaluator.now in
    let b = c.args.has_values in (
      j,
      subst (λ (s : Slots). IsArrayOfParts text b (IsReached v s) (explained_parts (explanation_of x)) j)
          (c.env.ensures ∙ ap (λ (p : Policy). (policy_view p).slots) c.policy.ensures)
          (subst (λ (ps : List Part). IsArrayOfParts text b (IsReached v (slots_view c.env.result.now)) ps j)
          (c.parts.ensures.whole ∙ ap (λ (e : Explanation). explained_parts e) c.explanation.ensures) c.in_ok-parts.ensures),
      view_object c.put_member.new.members
          ∙ ap (λ all. object (members_of all))
          (c.in_ok-put_member.ensures ∙ ap (λ ms. ms ++ (codes "parts", j) ∷ []) c.in_ok-put_head.ensures),
    )
