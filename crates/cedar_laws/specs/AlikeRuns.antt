-- Runs that are alike: the same rows but for the calls in residuals, and errors of the same kinds; and the laws of such
-- runs, which the functions of `determinism` have as their contracts.
use Rattle.std.specs.Prelude.{◌≡◌, ℕ, List, map}
use Rattle.cedar_model.specs.Terms.{Text}
use Rattle.cedar_model.specs.Failures.{Failure}
use Rattle.cedar_model.specs.Settings.{Setting}
use Rattle.cedar_model.specs.Rules.{StoredCalls}
use Rattle.cedar_model.specs.Alike.{erased, AreFunctional}
use Rattle.cedar_model.specs.Policies.{Policy, ErrorHandling}
use Rattle.cedar_model.specs.Responses.{Reported, reported_true, reported_false, reported_residual, Row, RunOf}
use Rattle.cedar_model.specs.Authorizations.{Authorized, failure_kinds}
use Rattle.cedar_model.specs.Reports.{ids, given_decision, must_determine, may_determine, concretized, HaveNoResidual}

-- what is reported, with each call in a residual taken out
abbrev pub erased_report : Reported → Reported
erased_report reported_true = reported_true
erased_report (reported_false e) = reported_false e
erased_report (reported_residual t) = reported_residual (erased t)

abbrev pub erased_row : Row → Row
erased_row r =
    record { id = r.id; effect = r.effect; annotations = r.annotations; reported = erased_report r.reported }

-- the same ids, effects, annotations and reports in order, where residuals are the same but for their calls
abbrev pub AreAlikeRows : List Row → List Row → Type 0
AreAlikeRows rows others = map erased_row rows ≡ map erased_row others

-- such rows, and errors of the same policies in order, each of the same kind
pub record AreAlikeRuns (rows others : List Row) (errors other_errors : List (Text × Failure)) : Type 0 where
  pub rows_alike : AreAlikeRows rows others
  pub kinds_same : failure_kinds errors ≡ failure_kinds other_errors

-- the same decision for the same reasons, and such errors
pub record AreAlikeResponses (r other : Authorized) : Type 0 where
  pub decision_same : r.decided_as ≡ other.decided_as
  pub reasons_same : (t : Text) → r.is_reason t ≡ other.is_reason t
  pub kinds_same : failure_kinds r.errors ≡ failure_kinds other.errors

-- the same decision is given, if one is, and the same policies must and may determine it
pub record ReportTheSame (rows others : List Row) : Type 0 where
  pub given_same : given_decision rows ≡ given_decision others
  pub must_same : ids (must_determine rows) ≡ ids (must_determine others)
  pub may_same : ids (may_determine rows) ≡ ids (may_determine others)

-- ---- laws

-- two runs of the same policies are alike, from functional functions
abbrev pub RunsAreAlike : StoredCalls → Type 0
RunsAreAlike calls =
    AreFunctional calls → (mode : ErrorHandling) (s : Setting) (levels : ℕ) (ps : List Policy) (rows others : List Row)
    (errors other_errors : List (Text × Failure)) → RunOf mode s calls levels ps rows errors
    → RunOf mode s calls levels ps others other_errors → AreAlikeRuns rows others errors other_errors

-- alike runs are made concrete alike
abbrev pub AlikeRunsAnswerAlike : Type 0
AlikeRunsAnswerAlike =
    (mode : ErrorHandling) (rows others : List Row) (errors other_errors : List (Text × Failure))
    → AreAlikeRuns rows others errors other_errors
    → AreAlikeResponses (concretized mode rows errors) (concretized mode others other_errors)

-- alike rows report the same
abbrev pub AlikeRowsReportTheSame : Type 0
AlikeRowsReportTheSame = (rows others : List Row) → AreAlikeRows rows others → ReportTheSame rows others

-- and where no residual is among them, they are the same
abbrev pub AlikeRowsAreEqual : Type 0
AlikeRowsAreEqual = (rows others : List Row) → HaveNoResidual rows → AreAlikeRows rows others → rows ≡ others
