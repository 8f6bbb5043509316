-- The object of the decision has four members.
use Rattle.std.proofs.Common.{◌≡◌, ◌∙◌, ap, ◌++◌, ◌∷◌, [], List, Some, codes, string_bytes}
use Rattle.json.specs.Json.{Json}
use Rattle.json.specs.Print.{print}
use Rattle.json.specs.Tree.{json_tokens}
use Rattle.cedar_model.specs.Terms.{Text}
use Rattle.cedar_decisions.specs.Decisions.{decision_view}
use Rattle.cedar_layers.specs.PolicySets.{policies_view}
use Rattle.cedar_authorizer.specs.responses.Responses.{has_id, errors_view}
use Rattle.cedar_json_writer.specs.Responses.{decision_json}
use Rattle.cedar_json_writer.specs.Texts.{texts_json, object_of}
use Rattle.cedar_json_lines.specs.Objects.{object_line}
use Rattle.cedar_cli.specs.Authorized.{IsAuthorized, IsDocument}
use Rattle.cedar_cli.specs.Batch.{in_json}
use Rattle.cedar_cli.specs.Documents.{names_where}
use Rattle.cedar_cli.specs.Named.{ids_where, is_named}
use Rattle.cedar_cli_explain.proofs.answers.decide_beside.Goals as goal

pub returns-clause-answered : goal.returns-clause-answered
returns-clause-answered c =
    let text = c.args.policies.text.now in
    let decided = c.in_ok-decided.decided in
    let is : IsAuthorized text c.args.asked.now (in_json c.args.way) decided = c.in_ok-decided.ensures.answered in
    let ps = policies_view is.parsed.policies in
    let r = is.response in
    let said : IsDocument text ps r decided = is.printed in
    let first : Text × Json = (codes "decision", decision_json (Some (decision_view r.decision))) in
    let more : List (Text × Json) =
    (codes "reason", texts_json (ids_where (has_id r.diagnostics.reason) ps))
    ∷ (codes "errors", said.document_is.errors)
    ∷ (codes "names", object_of (names_where (is_named (has_id r.diagnostics.reason) (errors_view r.diagnostics.errors.items)) ps))
    ∷ [] in
    let members : string_bytes decided.output ≡ object_line (first ∷ more) =
    said.output_is ∙ ap (λ (j : Json). print (json_tokens j) ++ codes "\n") said.document_is.is_object in
    record {
      decided = decided;
      decided_is = is;
      first = first;
      more = more;
      members_are = members;
      output_is = c.in_ok-printed.ensures.output first more members;
      status_is = c.in_ok-printed.ensures.status;
    }
