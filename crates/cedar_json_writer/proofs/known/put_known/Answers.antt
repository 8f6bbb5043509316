use Rattle.std.proofs.Common.{List, Option, [], ◌∷◌, ◌++◌, codes, ap, ◌∙◌}
use Rattle.json.specs.Json.{Json}
use Rattle.cedar_model.specs.Terms.{Text}
use Rattle.cedar_model.specs.Policies.{Decision}
use Rattle.cedar_model.specs.Reports.{ids, given_decision, must_determine, may_determine}
use Rattle.cedar_requests.specs.Requests.{request_view}
use Rattle.cedar_authorizer.specs.responses.Rows.{rows_view}
use Rattle.cedar_json_writer.specs.Trees.{members_seen}
use Rattle.cedar_json_writer.specs.Texts.{texts_json}
use Rattle.cedar_json_writer.specs.Responses.{decision_json, residuals_json, unknowns_json, entities_json}
use Rattle.cedar_json_writer.proofs.Listed.{two_put}
use Rattle.cedar_json_writer.proofs.known.put_known.Goals as goal

-- one member, in a list of its own
abbrev one : Text → Json → List (Text × Json)
one k j = (k, j) ∷ []

pub returns : goal.returns
returns c =
    let r = c.args.response.now in
    let q = request_view r.request.value in
    let rows = rows_view r in
    let before : List (Text × Json) = members_seen c.args.members.now.items in
    let given = one (codes "decision") (decision_json (given_decision rows)) in
    let must = one (codes "mustBeDetermining") (texts_json (ids (must_determine rows))) in
    let may = one (codes "mayBeDetermining") (texts_json (ids (may_determine rows))) in
    let left = one (codes "residuals") (residuals_json rows) in
    let unknowns = one (codes "unknowns") (unknowns_json q rows) in
    let entities = one (codes "missingEntities") (entities_json q rows) in
    two_put before _ _ ((((given ++ must) ++ may) ++ left) ++ unknowns) entities
    (two_put before _ _ (((given ++ must) ++ may) ++ left) unknowns
    (two_put before _ _ ((given ++ must) ++ may) left
    (two_put before _ _ (given ++ must) may
    (two_put before _ _ given must
    (c.in_ok-put_decision.ensures ∙ ap (λ (d : Option Decision). before ++ one (codes "decision") (decision_json d)) c.decision.ensures.given)
    c.in_ok-put_must.ensures)
    c.in_ok-put_may.ensures)
    c.in_ok-put_residuals.ensures)
    c.in_ok-put_unknowns.ensures)
    c.in_ok-put_entities.ensures
