-- What is lacking, and each policy.
use Rattle.std.proofs.Common.{ap, subst, ◌∙◌, codes}
use Rattle.json.specs.Json.{Json, object}
use Rattle.cedar_model.specs.Terms.{Text}
use Rattle.cedar_json_writer.proofs.Trees.{view_object}
use Rattle.cedar_json_writer.specs.Trees.{json_view, members_seen, members_of}
use Rattle.cedar_places.specs.Texts.{text_in}
use Rattle.cedar_explain.specs.Reached.{IsReached}
use Rattle.cedar_explain_json.specs.Documents.{IsArrayOfPolicies, lacks_json, document_json}
use Rattle.cedar_explain_json.proofs.Ordered.{two_members}
use Rattle.cedar_explain_json.proofs.requests.whole_document.Goals as goal

pub returns : goal.returns
returns g c =
    let j = json_view c.in_ok-policies.policies in (
      j,
      subst (λ (t : Text). IsArrayOfPolicies t c.args.has_values (IsReached c.args.evaluator.now) c.args.explained.now j)
          c.in_ok-places.ensures c.in_ok-policies.ensures,
      view_object c.put_member-2.new.members
          ∙ ap (λ ms. object (members_of ms))
          (two_members _ _ _ (codes "lacks", json_view c.in_ok-lacks.lacks) (codes "policies", j)
          (ap members_seen c.new-members.ensures.items) c.in_ok-put_member.ensures c.in_ok-put_member-2.ensures)
          ∙ ap (λ (l : Json). document_json l j)
          (c.in_ok-lacks.ensures ∙ ap (λ (t : Text). lacks_json t c.args.lacks.now) c.in_ok-places.ensures),
    )
