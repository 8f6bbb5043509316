-- Responses that are written as a line and read back on another machine.
use Rattle.std.specs.Prelude.{◌≡◌, ⊤, ℕ, true, List, [], ◌∷◌, map, None, Ok}
use Rattle.json.specs.Json.{Json}
use Rattle.cedar_model.specs.Terms.{Text, Term, principal, action, resource, context}
use Rattle.cedar_model.specs.World as world
use Rattle.cedar_model.specs.Agreement.{no_slots}
use Rattle.cedar_model.specs.Chains.{has_limit}
use Rattle.cedar_model.specs.Failures.{Failure}
use Rattle.cedar_model.specs.Refusals.{first_repeated}
use Rattle.cedar_model.specs.Responses.{Row, Reported, reported_true, reported_false, reported_residual}
use Rattle.cedar_model.specs.Rules.{StoredCalls}
use Rattle.cedar_model.specs.Settings.{RequestPart, variable_part}
use Rattle.cedar_model.specs.Shapes.{has_unknown}
use Rattle.cedar_functions.specs.Functions.{Knowledge}
use Rattle.cedar_values.specs.Residuals.{partial_term}
use Rattle.cedar_requests.specs.Requests.{request_view}
use Rattle.cedar_authorizer.specs.declared.responses.partial_response.PartialResponse.{PartialResponse}
use Rattle.cedar_authorizer.specs.responses.Rows.{mode_of, rows_view}
use Rattle.cedar_authorizer.specs.Running.{errors_of, request_of}
use Rattle.cedar_policy_json_reader.specs.Expressions.{expression_said}
use Rattle.cedar_policy_json_reader.specs.Policies.{annotations_said}
use Rattle.cedar_policy_json_writer.specs.Expressions.{expression_json}
use Rattle.cedar_policy_json_writer.specs.Policies.{annotations_json}
use Rattle.cedar_response_json.specs.Errors.{Says, kind_word}
use Rattle.cedar_response_json.specs.Responses.{IsWritten}
use Rattle.cedar_response_json_reader.specs.Errors.{told_failure}
use Rattle.cedar_response_json_reader.specs.Responses.{Reads, response_said}
use Rattle.cedar_staged.specs.Wires.{SaysTheSame}

-- ---- what reads back

-- annotations read back as themselves
abbrev pub AnnotationsReadBack : List (Text × Text) → Type 0
AnnotationsReadBack ps = annotations_said (annotations_json ps) ≡ Ok ps

-- where these functions are known, within so many levels
module _ (fs : Knowledge) (n : ℕ) where
  -- an expression reads back as itself
  abbrev pub ReadsBack : Term → Type 0
  ReadsBack t = expression_said fs n (expression_json no_slots t) ≡ Ok t

  -- what is left of a policy reads back, and holds an unknown
  abbrev pub ReportReadsBack : Reported → Type 0
  ReportReadsBack reported_true = ⊤
  ReportReadsBack (reported_false e) = ⊤
  ReportReadsBack (reported_residual t) = ReadsBack t × (has_unknown t ≡ true)

  abbrev pub RowReadsBack : Row → Type 0
  RowReadsBack r = AnnotationsReadBack r.annotations × ReportReadsBack r.reported

  abbrev pub RowsReadBack : List Row → Type 0
  RowsReadBack [] = ⊤
  RowsReadBack (r ∷ rs) = RowReadsBack r × RowsReadBack rs

  -- what the four variables answer reads back
  pub record RequestReadsBack (r : RequestPart) : Type 0 where
    pub principal_reads : ReadsBack (partial_term (variable_part r principal))
    pub action_reads : ReadsBack (partial_term (variable_part r action))
    pub resource_reads : ReadsBack (partial_term (variable_part r resource))
    pub context_reads : ReadsBack (partial_term (variable_part r context))

  -- all parts of a response read back, and no two of its policies have one id
  pub record CanTravel (r : PartialResponse) : Type 0 where
    pub request_reads : RequestReadsBack (request_view (request_of r))
    pub rows_read : RowsReadBack (rows_view r)
    pub ids_differ : first_repeated (map (λ x. x.id) (rows_view r)) ≡ None

-- ---- errors

-- the error of the same policy, by its kind and what it says
abbrev pub IsToldOf : Text × Failure → Text × Failure → Type 0
IsToldOf e t = (message : Text) × Says e.1 message × (t ≡ (e.0, told_failure (kind_word e.1) message))

-- each error is told, in their order, and none besides
abbrev pub AreToldOf : List (Text × Failure) → List (Text × Failure) → Type 0
AreToldOf [] [] = ⊤
AreToldOf [] (t ∷ ts) = ⊥
AreToldOf (e ∷ es) [] = ⊥
AreToldOf (e ∷ es) (t ∷ ts) = IsToldOf e t × AreToldOf es ts

-- ---- the whole

-- where the recursion limit is recorded, it is recorded there too
abbrev pub KeepsLimit : List (Text × Failure) → List (Text × Failure) → Type 0
KeepsLimit es ts = has_limit es ≡ true → has_limit ts ≡ true

-- what was read says the same, with the same errors by their kinds and what they say
pub record ComesBack (r read : PartialResponse) : Type 0 where
  pub says_the_same : SaysTheSame r read
  pub errors_are : AreToldOf (errors_of r) (errors_of read)
  pub limit_is_kept : KeepsLimit (errors_of r) (errors_of read)

-- where the JSON is that of a response that can travel, what is read of it, with these extensions, whose functions may
-- answer this, comes back, if its context is evaluated to what it was
abbrev pub WhatIsReadComesBack : world.Extensions → StoredCalls → PartialResponse → PartialResponse → Type 0
WhatIsReadComesBack x calls r read =
    (fs : Knowledge) (n : ℕ) (names : List Text) (j : Json) → CanTravel fs n r
    → IsWritten (mode_of r) names (request_view (request_of r)) (rows_view r) (errors_of r) j
    → Reads x calls n (response_said fs n names j) read
    → (request_view (request_of read)).context_part ≡ (request_view (request_of r)).context_part
    → ComesBack r read
