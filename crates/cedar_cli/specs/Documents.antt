-- The JSON values that say responses: their policies stand in this set, and this text has the places.
use Rattle.std.specs.Prelude.{◌≡◌, ◌++◌, ◌||◌, ℕ, min, Bool, cond, List, [], ◌∷◌, flat_map, pos}
use Rattle.std.specs.Prelude.{Option, Some, None, codes}
use Rattle.std.specs.Fmt.{signed_decimal}
use Rattle.json.specs.Json.{Json, string, number, array}
use Rattle.json.specs.Value.{items_of}
use Rattle.cedar_model.specs.Terms.{Text}
use Rattle.cedar_model.specs.Failures.{Failure}
use Rattle.cedar_decisions.specs.Decisions.{decision_view}
use Rattle.cedar_layers.specs.Policies.{PolicyView}
use Rattle.cedar_names.specs.declared.names.Loc.{Loc}
use Rattle.cedar_authorizer.specs.declared.responses.response.Response.{Response}
use Rattle.cedar_authorizer.specs.declared.responses.err.AuthorizationError.{AuthorizationError}
use Rattle.cedar_authorizer.specs.responses.Responses.{has_id, error_view, error_place, errors_view}
use Rattle.cedar_json_writer.specs.Texts.{texts_json, object_of}
use Rattle.cedar_json_writer.specs.Errors.{Says, error_members}
use Rattle.cedar_json_writer.specs.Responses.{decision_json}
use Rattle.cedar_cli.specs.Named.{annotated, ids_where, is_named}
use Rattle.cedar_cli.specs.Noted.{place_at}

-- ---- the names of policies

abbrev pub name_under : Text → Option Text → List (Text × Json)
name_under id None = []
name_under id (Some name) = (id, string name) ∷ []

-- what the policy's annotation `id` says, under the policy's id, where that is one of these
abbrev pub name_where : (Text → Bool) → PolicyView → List (Text × Json)
name_where is p = cond (is p.id) (name_under p.id (annotated p)) []

abbrev pub names_where : (Text → Bool) → List PolicyView → List (Text × Json)
names_where is = flat_map (name_where is)

-- ---- errors

-- a count; of more than a long holds, the greatest long
abbrev pub count_json : ℕ → Json
count_json n = number (signed_decimal (pos (min n 9223372036854775807)))

-- line and column of the place in the text, if the place is known
abbrev pub place_members : Text → Option Loc → List (Text × Json)
place_members text None = []
place_members text (Some l) =
    (codes "line", count_json (place_at text l.start).0) ∷ (codes "column", count_json (place_at text l.start).1) ∷ []

-- the id of the policy that erred, what its error says, and where in the text it arose
abbrev pub IsPlacedError : Text → AuthorizationError → Json → Type 0
IsPlacedError text e j =
    (message : Text) × Says (error_view e).1 message
    × (j ≡ object_of (error_members (error_view e).0 message ++ place_members text (error_place e)))

-- of these errors, in order
abbrev pub ArePlacedErrors : Text → List AuthorizationError → List Json → Type 0
ArePlacedErrors text [] [] = Unit {0}
ArePlacedErrors text [] (j ∷ js) = ⊥
ArePlacedErrors text (e ∷ es) [] = ⊥
ArePlacedErrors text (e ∷ es) (j ∷ js) = IsPlacedError text e j × ArePlacedErrors text es js

-- an array of them
abbrev pub IsErrorsArray : Text → List AuthorizationError → Json → Type 0
IsErrorsArray text es j = (js : List Json) × ArePlacedErrors text es js × (j ≡ array (items_of js))

-- ---- a response

-- an object of the decision and, behind it, the ids of the policies that determined it, in the order of the set, the
-- errors, and the names of these policies and of those that erred
pub record IsResponseDocument (text : Text) (ps : List PolicyView) (r : Response) (j : Json) : Type 0 where
  pub errors : Json
  pub errors_are : IsErrorsArray text r.diagnostics.errors.items errors
  pub is_object : j ≡ object_of (
      (codes "decision", decision_json (Some (decision_view r.decision)))
      ∷ (codes "reason", texts_json (ids_where (has_id r.diagnostics.reason) ps))
      ∷ (codes "errors", errors)
      ∷ (
        codes "names",
        object_of (names_where
            (is_named (has_id r.diagnostics.reason) (errors_view r.diagnostics.errors.items)) ps),
      ) ∷ [])
