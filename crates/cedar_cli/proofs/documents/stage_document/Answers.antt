use Rattle.std.proofs.Common.{ap, subst, ◌∙◌, [], ◌∷◌, ◌++◌, codes}
use Rattle.json.specs.Json.{object}
use Rattle.cedar_authorizer.specs.Running.{request_of}
use Rattle.cedar_authorizer.specs.responses.Rows.{rows_view}
use Rattle.cedar_json_writer.proofs.Trees.{view_object}
use Rattle.cedar_json_writer.specs.Responses.{known_members}
use Rattle.cedar_json_writer.specs.Trees.{json_view, members_seen, members_of}
use Rattle.cedar_requests.specs.Requests.{request_view}
use Rattle.cedar_cli.specs.Documents.{IsErrorsArray}
use Rattle.cedar_cli.specs.Stages.{step_members}
use Rattle.cedar_cli.proofs.Staged.{members_in_order}
use Rattle.cedar_cli.proofs.documents.stage_document.Goals as goal

pub returns : goal.returns
returns c =
    let r = c.args.response.now in
    let step = step_members c.args.step in
    let errors = json_view c.in_ok-errors.errors in
    let known = known_members (request_view (request_of r)) (rows_view r) in
    let all = c.put_member-2.new.members in
    record {
      errors = errors;
      errors_are = subst (λ es. IsErrorsArray c.args.deciding.places.now.source.text.now es errors)
          c.deref.ensures.value c.in_ok-errors.ensures;
      is_object = view_object all ∙ ap (λ ms. object (members_of ms))
          (members_in_order step known
          (members_seen c.put_known.new.members.items) (members_seen c.put_member.new.members.items)
          (members_seen all.items) (codes "errors", errors) (codes "names", json_view c.in_ok-names.names)
          (c.in_ok-put_known.ensures ∙ ap (λ ms. ms ++ known)
          (c.in_ok-put_step.ensures ∙ ap (λ ms. members_seen ms ++ step) c.new-members.ensures.items))
          c.in_ok-put_member.ensures c.in_ok-put_member-2.ensures)
          ∙ ap (λ n. object (members_of (step ++ (known ++ (codes "errors", errors) ∷ (codes "names", n) ∷ []))))
          c.in_ok-names.ensures;
    }
