-- The run of a set of policies, on a sheet and in a response.
use Rattle.std.specs.Prelude.{◌≡◌, ◌≢◌, ℕ, ◌+◌, ◌≤◌, List, Option, All, Contains}
use Rattle.cedar_model.specs.Terms.{Text}
use Rattle.cedar_model.specs.World.{World, Functions}
use Rattle.cedar_model.specs.Failures.{Failure, Answer, fails, out_of_memory}
use Rattle.cedar_model.specs.Settings.{Setting}
use Rattle.cedar_model.specs.Rules.{StoredCalls}
use Rattle.cedar_model.specs.Agreement.{CompletesWith}
use Rattle.cedar_model.specs.Policies.{Policy, ErrorHandling, permit, forbid}
use Rattle.cedar_model.specs.Responses.{Row, Decided, decided, RunOf, Stand, FitPolicies}
use Rattle.cedar_model.specs.Authorizations.{Authorized, HaveNoLimit, AreNoHigher}
use Rattle.cedar_model.specs.Configurations.{Configuration}
use Rattle.cedar_model.specs.Depth.{IsNoHigher, bound_of}
use Rattle.cedar_model.specs.Reports.{trues, falses, residuals, concretized}
use Rattle.cedar_names.specs.declared.names.Loc.{Loc}
use Rattle.cedar_expressions.specs.View.{expr_loc}
use Rattle.cedar_layers.specs.declared.policies.policy.Policy as layers
use Rattle.cedar_layers.specs.Policies.{policy_view, policy_location}
use Rattle.cedar_requests.specs.declared.request.Request.{Request}
use Rattle.cedar_authorizer.specs.declared.responses.partial_response.PartialResponse.{PartialResponse}
use Rattle.cedar_authorizer.specs.declared.responses.sheet.ConditionOutcome.{ConditionOutcome}
use Rattle.cedar_authorizer.specs.declared.responses.sheet.ConditionOutcome.TheVariants as outcomes
use Rattle.cedar_authorizer.specs.declared.responses.sheet.Sheet.{Sheet}
use Rattle.cedar_authorizer.specs.responses.Kept.{kept}
use Rattle.cedar_authorizer.specs.responses.Responses.{errors_view}
use Rattle.cedar_authorizer.specs.responses.Rows.{Located, clause_loc, true_rows, false_rows, residual_rows, rows_in}
use Rattle.cedar_authorizer.specs.responses.Rows.{rows_view}
use Rattle.cedar_authorizer.specs.responses.Rows.{mode_of}
use Rattle.cedar_authorizer.specs.responses.Sheets.{sheet_view, sorted}

-- ---- responses

-- the errors of a response, and the request that it is to
abbrev pub errors_of : PartialResponse → List (Text × Failure)
errors_of r = errors_view r.errors.items

abbrev pub request_of : PartialResponse → Request
request_of r = r.request.value

-- the six maps hold these rows by effect and report, each in the rows' order
pub record HoldsRows (rows : List Row) (r : PartialResponse) : Type 0 where
  pub true_permits : rows_in (true_rows permit r.satisfied_permits.entries) ≡ trues permit rows
  pub false_permits : rows_in (false_rows permit r.false_permits.entries) ≡ falses permit rows
  pub residual_permits : rows_in (residual_rows permit r.residual_permits.entries) ≡ residuals permit rows
  pub true_forbids : rows_in (true_rows forbid r.satisfied_forbids.entries) ≡ trues forbid rows
  pub false_forbids : rows_in (false_rows forbid r.false_forbids.entries) ≡ falses forbid rows
  pub residual_forbids : rows_in (residual_rows forbid r.residual_forbids.entries) ≡ residuals forbid rows

-- a response is in the mode, and holds the rows of a run, and its errors in order
pub record IsRun (c : Configuration) (s : Setting) (ps : List Policy) (r : PartialResponse) : Type 0 where
  pub mode_is : mode_of r ≡ c.mode
  pub rows : List Row
  pub run : RunOf c.mode s c.calls c.levels ps rows (errors_of r)
  pub held : HoldsRows rows r

-- in every completion that fits the conditions its rows stand, if none of its errors is the recursion limit
abbrev pub ResponseStands : Configuration → Setting → List Policy → PartialResponse → Type 0
ResponseStands c s ps r =
    (ans : Functions) (w : World) → CompletesWith c.calls ans w s → FitPolicies ans w ps →
    HaveNoLimit (errors_of r) → Stand c.mode s.extensions ans w ps (rows_view r)

-- the depth bound: the recursion limit is not recorded where all that is given is no higher than b, and no condition is
-- higher than what the levels have above b, with deep resolution above twice b
abbrev pub IsDeepEnough : Configuration → Setting → List Policy → PartialResponse → Type 0
IsDeepEnough c s ps r =
    (b h : ℕ) → IsNoHigher c.calls s s.map b → AreNoHigher ps h → h + bound_of c.resolution b ≤ c.levels →
    HaveNoLimit (errors_of r)

-- a run that is made concrete
pub record IsConcreteRun (c : Configuration) (s : Setting) (ps : List Policy) (r : Authorized) : Type 0 where
  pub rows : List Row
  pub errors : List (Text × Failure)
  pub run : RunOf c.mode s c.calls c.levels ps rows errors
  pub concrete : r ≡ concretized c.mode rows errors

-- ---- sheets

-- what is decided is what such an answer decides, which is not out of memory
abbrev pub ComesOutBy : (Answer → Type 0) → Decided → Type 0
ComesOutBy May d = (a : Answer) × May a × (a ≢ fails out_of_memory) × (d ≡ decided a)

-- the rows and the errors of a run are on a sheet
pub record IsNotedRun (mode : ErrorHandling) (s : Setting) (calls : StoredCalls) (levels : ℕ) (ps : List Policy)
    (sheet : Sheet) : Type 0 where
  pub located : List Located
  pub errors : List (Text × Failure)
  pub run : RunOf mode s calls levels ps (rows_in located) errors
  pub noted : sheet_view sheet ≡ sorted located errors

-- by an authorizer that is configured so
abbrev pub IsNotedBy : Configuration → Setting → List Policy → Sheet → Type 0
IsNotedBy c s ps sheet = IsNotedRun c.mode s c.calls c.levels ps sheet

-- a response keeps what is on a sheet
pub record KeepsSheet (s : Sheet) (r : PartialResponse) : Type 0 where
  pub true_permits : r.satisfied_permits.entries ≡ kept s.true_permits.items
  pub false_permits : r.false_permits.entries ≡ kept s.false_permits.items
  pub residual_permits : r.residual_permits.entries ≡ kept s.residual_permits.items
  pub true_forbids : r.satisfied_forbids.entries ≡ kept s.true_forbids.items
  pub false_forbids : r.false_forbids.entries ≡ kept s.false_forbids.items
  pub residual_forbids : r.residual_forbids.entries ≡ kept s.residual_forbids.items
  pub errors : r.errors.items ≡ s.errors.items

-- ---- places

-- it has the id of one of these policies, and stands where that policy does
pub record StandsAtPolicy (ps : List layers.Policy) (l : Located) : Type 0 where
  pub policy : layers.Policy
  pub among : Contains ps policy
  pub id_is : l.row.id ≡ (policy_view policy).id
  pub stands : clause_loc l ≡ policy_location policy

-- what is left of a policy stands where that policy does
pub record ResidualsStand (ps : List layers.Policy) (r : PartialResponse) : Type 0 where
  pub permits : All (StandsAtPolicy ps) (residual_rows permit r.residual_permits.entries)
  pub forbids : All (StandsAtPolicy ps) (residual_rows forbid r.residual_forbids.entries)

-- it has the id of one of these rows, and stands where that row's clause does
pub record StandsAtRow (rows : List Located) (l : Located) : Type 0 where
  pub before : Located
  pub among : Contains rows before
  pub id_is : l.row.id ≡ before.row.id
  pub stands : clause_loc l ≡ clause_loc before

-- what is left of a policy stands where its clause stood among these rows
pub record ResidualsStay (rows : List Located) (r : PartialResponse) : Type 0 where
  pub permits : All (StandsAtRow rows) (residual_rows permit r.residual_permits.entries)
  pub forbids : All (StandsAtRow rows) (residual_rows forbid r.residual_forbids.entries)

-- what is left of a policy stands on a sheet where that policy does
pub record ResidualsAreNoted (ps : List layers.Policy) (sheet : Sheet) : Type 0 where
  pub permits : All (StandsAtPolicy ps) (residual_rows permit sheet.residual_permits.items)
  pub forbids : All (StandsAtPolicy ps) (residual_rows forbid sheet.residual_forbids.items)

-- what is left stands here
abbrev pub IsLeftAt : Option Loc → ConditionOutcome → Type 0
IsLeftAt l (outcomes.Decided b) = Unit {0}
IsLeftAt l (outcomes.Residual e) = expr_loc e.value ≡ l
IsLeftAt l (outcomes.Failed e) = Unit {0}
