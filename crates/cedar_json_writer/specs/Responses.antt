-- Decisions and responses in JSON.
use Rattle.std.specs.Prelude.{◌≡◌, List, [], ◌∷◌, ◌++◌, map, Option, Some, None, codes}
use Rattle.json.specs.Json.{Json, null, string}
use Rattle.cedar_model.specs.Terms.{Text}
use Rattle.cedar_model.specs.Agreement.{no_slots}
use Rattle.cedar_model.specs.Failures.{Failure}
use Rattle.cedar_model.specs.Settings.{RequestPart, printed_entity}
use Rattle.cedar_model.specs.Policies.{Decision, allow, deny, permit, forbid}
use Rattle.cedar_model.specs.Responses.{Row, truth, clause_of}
use Rattle.cedar_model.specs.Reports.{ids, residuals, given_decision, must_determine, may_determine}
use Rattle.cedar_layers.specs.Policies.{PolicyView}
use Rattle.cedar_text_printer.specs.Policies.{policy_text}
use Rattle.cedar_unknowns.specs.Occurrences.{Asked, each_once, request_occurrences, row_occurrences}
use Rattle.cedar_unknowns.specs.Entities.{entities_asked, others_asked}
use Rattle.cedar_json_writer.specs.Texts.{texts_json, object_of, names_once}
use Rattle.cedar_json_writer.specs.Errors.{AreErrorsJson}

-- a decision, or `null` where none is given
abbrev pub decision_json : Option Decision → Json
decision_json None = null
decision_json (Some allow) = string (codes "allow")
decision_json (Some deny) = string (codes "deny")

-- ---- a response

-- the decision, the reasons and the errors
abbrev pub response_members : Decision → List Text → Json → List (Text × Json)
response_members decision reasons errors =
    (codes "decision", decision_json (Some decision)) ∷ (codes "reason", texts_json reasons)
    ∷ (codes "errors", errors) ∷ []

abbrev pub IsResponseJson : Decision → List Text → List (Text × Failure) → Json → Type 0
IsResponseJson decision reasons errors j =
    (e : Json) × AreErrorsJson errors e × (j ≡ object_of (response_members decision reasons e))

-- ---- what is left of policies

-- a row as a policy: what is left of it is its clause, and its scope holds of all
abbrev pub policy_of_row : Row → PolicyView
policy_of_row r = record {
  effect = r.effect;
  id = r.id;
  annotations = r.annotations;
  principal_constraint = truth;
  action_constraint = truth;
  resource_constraint = truth;
  when_clause = clause_of r.reported;
  slots = no_slots;
}

-- Cedar's text of that policy under its id
abbrev pub residual_member : Row → Text × Json
residual_member r = (r.id, string (policy_text (policy_of_row r)))

-- that of each residual, permits first
abbrev pub residuals_json : List Row → Json
residuals_json rows = object_of (map residual_member (residuals permit rows ++ residuals forbid rows))

-- ---- a partial response

-- the unknowns of a request and of what is left of policies, each once
abbrev pub left_open : RequestPart → List Row → List Asked
left_open request rows = each_once (request_occurrences request ++ row_occurrences rows)

-- the names of those that stand for no entity, each once
abbrev pub unknowns_json : RequestPart → List Row → Json
unknowns_json request rows = texts_json (names_once (others_asked (left_open request rows)))

-- the entities that the others stand for, as they print
abbrev pub entities_json : RequestPart → List Row → Json
entities_json request rows = texts_json (map printed_entity (entities_asked (left_open request rows)))

-- the decision, the ids of the policies that must and that may determine it, what is left of policies, and on which
-- unknowns and entities that hangs
abbrev pub known_members : RequestPart → List Row → List (Text × Json)
known_members request rows =
    (codes "decision", decision_json (given_decision rows))
    ∷ (codes "mustBeDetermining", texts_json (ids (must_determine rows)))
    ∷ (codes "mayBeDetermining", texts_json (ids (may_determine rows)))
    ∷ (codes "residuals", residuals_json rows)
    ∷ (codes "unknowns", unknowns_json request rows)
    ∷ (codes "missingEntities", entities_json request rows) ∷ []

-- all this, and the errors
abbrev pub IsPartialResponseJson : RequestPart → List Row → List (Text × Failure) → Json → Type 0
IsPartialResponseJson request rows errors j =
    (e : Json) × AreErrorsJson errors e
    × (j ≡ object_of (known_members request rows ++ (codes "errors", e) ∷ []))
