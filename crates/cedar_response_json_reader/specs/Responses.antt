-- What the JSON of a response says.
use Rattle.std.specs.Prelude.{◌≡◌, ◌⊎◌, ℕ, Bool, List, Option, Some, None, if◌then◌else◌, bytes_eq, Ok, codes}
use Rattle.std.specs.Option.{option_and_then}
use Rattle.json.specs.Json.{Json}
use Rattle.json.specs.Find.{as_str}
use Rattle.cedar_model.specs.Terms.{Text, Term}
use Rattle.cedar_model.specs.World as world
use Rattle.cedar_model.specs.Failures.{Failure}
use Rattle.cedar_model.specs.Settings.{Entry}
use Rattle.cedar_model.specs.Rules.{StoredCalls}
use Rattle.cedar_model.specs.Policies.{ErrorHandling, skip, forbid_on_error}
use Rattle.cedar_model.specs.Responses.{Row}
use Rattle.cedar_functions.specs.Functions.{Knowledge}
use Rattle.cedar_requests.specs.Requests.{request_view}
use Rattle.cedar_authorizer.specs.declared.responses.partial_response.PartialResponse.{PartialResponse}
use Rattle.cedar_authorizer.specs.responses.Rows.{mode_of}
use Rattle.cedar_authorizer.specs.Running.{errors_of, request_of, HoldsRows}
use Rattle.cedar_response_json_reader.specs.declared.errors.ResponseJsonError.{ResponseJsonError}
use Rattle.cedar_response_json_reader.specs.declared.errors.ResponseRefusal.TheVariants as reasons
use Rattle.cedar_response_json_reader.specs.Contexts.{IsContextOf, IsWhyNone}
use Rattle.cedar_response_json_reader.specs.Errors.{errors_said}
use Rattle.cedar_response_json_reader.specs.Extensions.{names_said}
use Rattle.cedar_response_json_reader.specs.Refusals.{Said, both_said, made_of, unless, or_refused, IsRefusal}
use Rattle.cedar_response_json_reader.specs.Requests.{entry_at, context_at}
use Rattle.cedar_response_json_reader.specs.Rows.{rows_said}
use Rattle.cedar_response_json_reader.specs.Shapes.{over_members, part_at}

-- ---- how errors are handled

abbrev pub mode_named : Text → Option ErrorHandling
mode_named t =
    if bytes_eq t (codes "skip") then Some skip else (
    if bytes_eq t (codes "forbidOnError") then Some forbid_on_error else
    None)

abbrev pub mode_said : Json → Said ErrorHandling
mode_said j = or_refused reasons.NotAMode (option_and_then mode_named (as_str j))

-- ---- all of it but that the context is not evaluated yet

-- who asks, to do what, with what, and the context's expression
abbrev pub Parts : Type 0
Parts = Entry × (Entry × (Entry × Term))

-- what is reported of policies, and what is told of errors
abbrev pub Reports : Type 0
Reports = List Row × List (Text × Failure)

-- what the JSON says, but that the context is not evaluated yet
abbrev pub Told : Type 0
Told = ErrorHandling × (Parts × Reports)

abbrev pub mode_and_names : List Text → Json → Said (ErrorHandling × Bool)
mode_and_names names j =
    both_said (part_at (codes "errorHandling") mode_said j) (part_at (codes "extensions") (names_said names) j)

-- how errors are handled, where the extensions are these
abbrev pub mode_with_names : List Text → Json → Said ErrorHandling
mode_with_names names j = made_of (λ p. p.0) (mode_and_names names j)

module _ (fs : Knowledge) (n : ℕ) where
  abbrev pub resource_and_context : Json → Said (Entry × Term)
  resource_and_context j = both_said (entry_at fs n (codes "resource") j) (context_at fs n j)

  abbrev pub action_and_others : Json → Said (Entry × (Entry × Term))
  action_and_others j = both_said (entry_at fs n (codes "action") j) (resource_and_context j)

  abbrev pub parts_said : Json → Said Parts
  parts_said j = both_said (entry_at fs n (codes "principal") j) (action_and_others j)

  abbrev pub reports_said : Json → Said Reports
  reports_said j =
      both_said (part_at (codes "policies") (rows_said fs n) j) (part_at (codes "errors") errors_said j)

  abbrev pub request_and_reports : Json → Said (Parts × Reports)
  request_and_reports j = both_said (parts_said j) (reports_said j)

  -- an object of these eight members and no other
  abbrev pub response_said : List Text → Json → Said Told
  response_said names j = unless (over_members 8 j) (both_said (mode_with_names names j) (request_and_reports j))

-- ---- the response of it

-- with these extensions, whose functions may answer this, within so many levels
module _ (x : world.Extensions) (calls : StoredCalls) (n : ℕ) where
  -- the response says what was told, and its context is what the expression is evaluated to
  pub record IsRead (p : Told) (r : PartialResponse) : Type 0 where
    pub mode_is : mode_of r ≡ p.0
    pub principal_is : (request_view (request_of r)).principal_entry ≡ p.1.0.0
    pub action_is : (request_view (request_of r)).action_entry ≡ p.1.0.1.0
    pub resource_is : (request_view (request_of r)).resource_entry ≡ p.1.0.1.1.0
    pub context_is : IsContextOf x calls n p.1.0.1.1.1 (request_view (request_of r)).context_part
    pub held : HoldsRows p.1.1.0 r
    pub errors_are : errors_of r ≡ p.1.1.1

  -- it says what is said
  abbrev pub Reads : Said Told → PartialResponse → Type 0
  Reads said r = (p : Told) × (said ≡ Ok p) × IsRead p r

  -- what is said is refused, or else there is no context; or memory ran out
  abbrev pub IsWhyNotRead : Said Told → ResponseJsonError → Type 0
  IsWhyNotRead said e = IsRefusal said e ⊎ ((p : Told) × (said ≡ Ok p) × IsWhyNone x calls n p.1.0.1.1.1 e)
