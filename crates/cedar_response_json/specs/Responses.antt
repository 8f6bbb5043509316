-- A whole partial response in JSON.
use Rattle.std.specs.Prelude.{◌≡◌, Bool, true, false, List, [], ◌∷◌, ◌++◌, map, codes}
use Rattle.json.specs.Json.{Json, string, array}
use Rattle.json.specs.Value.{items_of}
use Rattle.cedar_model.specs.Terms.{Text, principal, action, resource, context}
use Rattle.cedar_model.specs.Agreement.{no_slots}
use Rattle.cedar_model.specs.Failures.{Failure, PartialValue}
use Rattle.cedar_model.specs.Settings.{RequestPart, variable_part}
use Rattle.cedar_model.specs.Policies.{ErrorHandling, skip, forbid_on_error}
use Rattle.cedar_model.specs.Responses.{Row, Reported, reported_true, reported_false, reported_residual}
use Rattle.cedar_values.specs.Residuals.{partial_term}
use Rattle.cedar_layers.specs.Policies.{PolicyView}
use Rattle.cedar_json_writer.specs.Texts.{texts_json, object_of}
use Rattle.cedar_json_writer.specs.Responses.{policy_of_row}
use Rattle.cedar_policy_json_writer.specs.Objects.{three_members}
use Rattle.cedar_policy_json_writer.specs.Policies.{policy_json}
use Rattle.cedar_policy_json_writer.specs.Expressions.{expression_json}
use Rattle.cedar_response_json.specs.Errors.{AreErrorsJson}

-- ---- how errors are handled, and with which extensions

abbrev pub mode_word : ErrorHandling → Text
mode_word skip = codes "skip"
mode_word forbid_on_error = codes "forbidOnError"

abbrev pub mode_member : ErrorHandling → Text × Json
mode_member mode = (codes "errorHandling", string (mode_word mode))

abbrev pub names_member : List Text → Text × Json
names_member names = (codes "extensions", texts_json names)

-- ---- the request

-- a value, or a residual, as an expression: of an unknown its name and the type that is known
abbrev pub part_json : PartialValue → Json
part_json p = expression_json no_slots (partial_term p)

abbrev pub four_parts : PartialValue → PartialValue → PartialValue → PartialValue → List (Text × Json)
four_parts p a r c =
    (codes "principal", part_json p) ∷ (codes "action", part_json a) ∷ (codes "resource", part_json r)
    ∷ (codes "context", part_json c) ∷ []

-- what the four variables answer, each under its name
abbrev pub request_members : RequestPart → List (Text × Json)
request_members r =
    four_parts (variable_part r principal) (variable_part r action) (variable_part r resource)
    (variable_part r context)

-- ---- what is reported of policies

-- the word of a policy that is not satisfied, by whether it erred
abbrev pub false_word : Bool → Text
false_word false = codes "unsatisfied"
false_word true = codes "erring"

abbrev pub report_word : Reported → Text
report_word reported_true = codes "satisfied"
report_word (reported_false e) = false_word e
report_word (reported_residual t) = codes "residual"

-- a policy under its id, reported by this word
abbrev pub reported_json : Text → PolicyView → Json
reported_json word p =
    three_members (codes "id") (string p.id) (codes "reported") (string word) (codes "policy") (policy_json p)

-- a row: the policy that it is carried on as, whose condition is what is left of it
abbrev pub row_json : Row → Json
row_json r = reported_json (report_word r.reported) (policy_of_row r)

abbrev pub rows_json : List Row → Json
rows_json rows = array (items_of (map row_json rows))

abbrev pub rows_member : List Row → Text × Json
rows_member rows = (codes "policies", rows_json rows)

-- ---- errors

-- they stand at `errors` behind the members before
abbrev pub AddsErrors : List (Text × Failure) → List (Text × Json) → List (Text × Json) → Type 0
AddsErrors es before after = (j : Json) × AreErrorsJson es j × (after ≡ before ++ (codes "errors", j) ∷ [])

-- ---- all of it

-- all members, where this stands at `errors`
abbrev pub response_members : ErrorHandling → List Text → RequestPart → List Row → Json → List (Text × Json)
response_members mode names request rows errors =
    mode_member mode ∷ names_member names
    ∷ (request_members request ++ (rows_member rows ∷ (codes "errors", errors) ∷ []))

abbrev pub response_json : ErrorHandling → List Text → RequestPart → List Row → Json → Json
response_json mode names request rows errors = object_of (response_members mode names request rows errors)

-- the JSON is that of a response in this mode, with these extensions, to this request, with these rows and errors
abbrev pub IsWritten : ErrorHandling → List Text → RequestPart → List Row → List (Text × Failure) → Json → Type 0
IsWritten mode names request rows errors j =
    (e : Json) × AreErrorsJson errors e × (j ≡ response_json mode names request rows e)
