-- What answers to equal arguments have in common, and what more levels change.
use Rattle.std.specs.Prelude.{◌≡◌, ℕ, ◌≤◌, List, Ok}
use Rattle.cedar_model.specs.Settings.{RequestPart, Store, Setting}
use Rattle.cedar_model.specs.Policies.{Policy}
use Rattle.cedar_model.specs.Configurations.{Configuration, configured}
use Rattle.cedar_model.specs.Responses.{Row}
use Rattle.cedar_model.specs.Chains as chains
use Rattle.cedar_model.specs.Chains.{Mapping}
use Rattle.cedar_model.specs.Authorizations.{failure_kinds, HaveNoLimit}
use Rattle.cedar_laws.specs.AlikeRuns.{AreAlikeRuns, ReportTheSame}
use Rattle.cedar_laws.specs.EqualRuns.{HaveOneAnswer}
use Rattle.cedar_laws.specs.EqualSteps.{IsSettled}
use Rattle.cedar_laws.specs.LevelRuns.{StayButForLimits}
use Rattle.cedar_authorizer.specs.declared.responses.partial_response.PartialResponse.{PartialResponse}
use Rattle.cedar_authorizer.specs.declared.responses.response.Response.{Response}
use Rattle.cedar_authorizer.specs.responses.Responses.{response_view}
use Rattle.cedar_authorizer.specs.responses.Rows.{rows_view}
use Rattle.cedar_authorizer.specs.Configured.{asked_of}
use Rattle.cedar_authorizer.specs.Running.{errors_of, HoldsRows, IsRun, IsConcreteRun}
use Rattle.cedar_authorizer.specs.Steps.{response_said, IsStep}
use Rattle.cedar_authorizer.specs.Stability.{AnswersAlike}

-- the same decision for the same reasons, and errors of the same policies in order, each of the same kind
pub record IsSameAnswer (r other : Response) : Type 0 where
  pub alike : AnswersAlike other r
  pub kinds_same : failure_kinds (response_view r).errors ≡ failure_kinds (response_view other).errors

-- rows that are the same but for the calls in residuals, such errors, and the same decision and bounds on what
-- determines it
pub record IsSameReport (r other : PartialResponse) : Type 0 where
  pub alike : AreAlikeRuns (rows_view r) (rows_view other) (errors_of r) (errors_of other)
  pub same : ReportTheSame (rows_view r) (rows_view other)

-- ---- one call, asked twice

abbrev pub AnswersOnce : Configuration → Response → Response → Type 0
AnswersOnce c r other =
    (s : Setting) (ps : List Policy) → IsConcreteRun c s ps (response_view r)
    → IsConcreteRun c s ps (response_view other) → IsSameAnswer r other

abbrev pub ReportsOnce : Configuration → PartialResponse → PartialResponse → Type 0
ReportsOnce c r other =
    (s : Setting) (ps : List Policy) → IsRun c s ps r → IsRun c s ps other → IsSameReport r other

-- and where each stored function has one answer to the same arguments, all of it is the same, errors with their fields
abbrev pub AnswersEqually : Configuration → Response → Response → Type 0
AnswersEqually c r other =
    HaveOneAnswer c.calls → (s : Setting) (ps : List Policy) → IsConcreteRun c s ps (response_view r)
    → IsConcreteRun c s ps (response_view other) → response_view r ≡ response_view other

abbrev pub ReportsEqually : Configuration → PartialResponse → PartialResponse → Type 0
ReportsEqually c r other =
    HaveOneAnswer c.calls → (s : Setting) (ps : List Policy) → IsRun c s ps r → IsRun c s ps other
    → (rows_view r ≡ rows_view other) × (errors_of r ≡ errors_of other)

-- ---- one step, taken twice

-- where it evaluates no context again
abbrev pub StepsReportOnce : Configuration → chains.Response → PartialResponse → PartialResponse → Type 0
StepsReportOnce c old r other =
    (step : Mapping × Store) → IsSettled old.request.context_part → IsStep c step old (Ok r)
    → IsStep c step old (Ok other) → IsSameReport r other

abbrev pub StepsReportEqually : Configuration → chains.Response → PartialResponse → PartialResponse → Type 0
StepsReportEqually c old r other =
    HaveOneAnswer c.calls → (step : Mapping × Store) → IsStep c step old (Ok r) → IsStep c step old (Ok other)
    → response_said r ≡ response_said other

-- ---- more levels

abbrev pub with_levels : ℕ → Configuration → Configuration
with_levels levels c = configured c.calls c.mode c.resolution c.extensions levels

-- what is answered without the recursion limit may be answered with more levels
abbrev pub AnswersStay : Configuration → Response → Type 0
AnswersStay c r =
    (s : Setting) (ps : List Policy) (levels : ℕ) → c.levels ≤ levels → HaveNoLimit (response_view r).errors
    → IsConcreteRun c s ps (response_view r) → IsConcreteRun (with_levels levels c) s ps (response_view r)

abbrev pub ReportsStay : Configuration → PartialResponse → Type 0
ReportsStay c r =
    (s : Setting) (ps : List Policy) (levels : ℕ) → c.levels ≤ levels → HaveNoLimit (errors_of r) → IsRun c s ps r
    → IsRun (with_levels levels c) s ps r

-- and is what is answered with them
abbrev pub AnswersAlikeWithMore : Configuration → Configuration → Response → Response → Type 0
AnswersAlikeWithMore c more r other =
    (request : RequestPart) (store : Store) (ps : List Policy) → HaveNoLimit (response_view r).errors
    → IsConcreteRun c (asked_of c request store) ps (response_view r)
    → IsConcreteRun more (asked_of more request store) ps (response_view other) → IsSameAnswer r other

abbrev pub ReportsAlikeWithMore : Configuration → Configuration → PartialResponse → PartialResponse → Type 0
ReportsAlikeWithMore c more r other =
    (request : RequestPart) (store : Store) (ps : List Policy) → HaveNoLimit (errors_of r)
    → IsRun c (asked_of c request store) ps r → IsRun more (asked_of more request store) ps other → IsSameReport r other

-- two responses hold rows of which more levels changed only those of policies that met the limit
pub record ChangesOnlyLimits (r other : PartialResponse) : Type 0 where
  pub rows : List Row
  pub other_rows : List Row
  pub held : HoldsRows rows r
  pub other_held : HoldsRows other_rows other
  pub stay : StayButForLimits rows (errors_of r) other_rows (errors_of other)

abbrev pub OnlyLimitsChange : Configuration → Configuration → PartialResponse → PartialResponse → Type 0
OnlyLimitsChange c more r other =
    (request : RequestPart) (store : Store) (ps : List Policy) → IsRun c (asked_of c request store) ps r
    → IsRun more (asked_of more request store) ps other → ChangesOnlyLimits r other
