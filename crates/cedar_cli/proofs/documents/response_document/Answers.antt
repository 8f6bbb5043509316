use Rattle.std.proofs.Common.{◌≡◌, ap, subst, ◌∙◌, List, [], ◌∷◌, ◌++◌, codes, Some}
use Rattle.json.specs.Json.{Json, object}
use Rattle.cedar_decisions.specs.Decisions.{decision_view}
use Rattle.cedar_model.specs.Terms.{Text}
use Rattle.cedar_json_writer.specs.Responses.{decision_json}
use Rattle.cedar_json_writer.specs.Trees.{json_view, members_seen, members_of}
use Rattle.cedar_json_writer.proofs.Trees.{view_object}
use Rattle.cedar_cli.specs.Documents.{IsErrorsArray}
use Rattle.cedar_cli.proofs.Staged.{four_members}
use Rattle.cedar_cli.proofs.documents.response_document.Goals as goal

pub returns : goal.returns
returns c =
    let all = c.put_member-4.new.members in
    record {
      errors = json_view c.in_ok-errors.errors;
      errors_are = subst (λ es. IsErrorsArray c.args.deciding.places.now.source.text.now es (json_view c.in_ok-errors.errors))
          c.deref.ensures.value c.in_ok-errors.ensures;
      is_object = view_object all ∙ ap (λ ms. object (members_of ms))
          (four_members (codes "decision") (codes "reason") (codes "errors") (codes "names") _ _ _ _ _ _ _ _ _ _ _ _
          (ap members_seen c.new-members.ensures.items) c.in_ok-put_member.ensures c.in_ok-put_member-2.ensures
          c.in_ok-put_member-3.ensures c.in_ok-put_member-4.ensures c.in_ok-decision.ensures c.in_ok-reasons.ensures
          c.in_ok-names.ensures);
    }
