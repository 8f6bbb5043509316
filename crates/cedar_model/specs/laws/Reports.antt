-- The laws of what a response says, which the functions of `reports` have as their contracts.
use Rattle.std.specs.Prelude.{◌≡◌, ℕ, true, List, ◌++◌, map, Some}
use Rattle.cedar_model.specs.Terms.{Text}
use Rattle.cedar_model.specs.Outcomes.{has_text}
use Rattle.cedar_model.specs.World.{World, Extensions, Functions}
use Rattle.cedar_model.specs.Failures.{Failure}
use Rattle.cedar_model.specs.Settings.{Setting}
use Rattle.cedar_model.specs.Rules.{StoredCalls}
use Rattle.cedar_model.specs.Policies.{permit, forbid, Policy, Decision, decision, reasons}
use Rattle.cedar_model.specs.Policies.{ErrorHandling, counting, counted_each}
use Rattle.cedar_model.specs.Reordering.{IsReordering}
use Rattle.cedar_model.specs.Responses.{Row, Stand, RunOf}
use Rattle.cedar_model.specs.Chains.{rows_by}
use Rattle.cedar_model.specs.Authorizations.{IsResponse}
use Rattle.cedar_model.specs.laws.Authorizations.{PolicyRuns}
use Rattle.cedar_model.specs.Reports.{ids, given_decision, must_determine, may_determine, concrete_decision}
use Rattle.cedar_model.specs.Reports.{concrete_reasons}
use Rattle.cedar_model.specs.Reports.{concretized, HaveNoResidual, judged_row}

-- each text of the first list is in the second
abbrev pub Within : List Text → List Text → Type 0
Within ts us = (t : Text) → has_text t ts ≡ true → has_text t us ≡ true

-- of policies in a world: a given decision is theirs, and their reasons lie between the two bounds
pub record ReportsHold (mode : ErrorHandling) (X : Extensions) (ans : Functions) (w : World) (ps : List Policy)
    (rows : List Row) : Type 0 where
  pub decision_holds : (d : Decision) → given_decision rows ≡ Some d → decision (counted_each mode X ans w ps) ≡ d
  pub must_are_reasons : Within (ids (must_determine rows)) (reasons (counted_each mode X ans w ps))
  pub reasons_may : Within (reasons (counted_each mode X ans w ps)) (ids (may_determine rows))

-- what the rows are made concrete as is decided so by the policies, for the same reasons
abbrev pub AreDecidedAs : ErrorHandling → Extensions → Functions → World → List Policy → List Row → Type 0
AreDecidedAs mode X ans w ps rows =
    (concrete_decision mode rows ≡ decision (counted_each mode X ans w ps))
    × ((t : Text) → has_text t (ids (concrete_reasons mode rows)) ≡ has_text t (reasons (counted_each mode X ans w ps)))

-- that holds wherever the rows stand
abbrev pub BoundsHold : Type 0
BoundsHold =
    (mode : ErrorHandling) (X : Extensions) (ans : Functions) (w : World) (ps : List Policy) (rows : List Row)
    → Stand mode X ans w ps rows → ReportsHold mode X ans w ps rows

-- a given decision is the concrete one
abbrev pub GivenIsConcrete : Type 0
GivenIsConcrete =
    (mode : ErrorHandling) (rows : List Row) (d : Decision) → given_decision rows ≡ Some d
    → concrete_decision mode rows ≡ d

-- where rows without a residual stand, the concrete decision is that of the policies, and the reasons are theirs
abbrev pub ConcreteIsDefined : Type 0
ConcreteIsDefined =
    (mode : ErrorHandling) (X : Extensions) (ans : Functions) (w : World) (ps : List Policy) (rows : List Row)
    → Stand mode X ans w ps rows → HaveNoResidual rows → AreDecidedAs mode X ans w ps rows

-- the concrete decision is that of the rows as verdicts
abbrev pub ConcreteDecidesRows : Type 0
ConcreteDecidesRows =
    (mode : ErrorHandling) (rows : List Row)
    → concrete_decision mode rows ≡ decision (counting mode (map (judged_row mode) rows))

-- and a run that leaves no residual is concrete as the response to its policies
abbrev pub RunsWithoutResidualsAreResponses : StoredCalls → Type 0
RunsWithoutResidualsAreResponses calls =
    (mode : ErrorHandling) (s : Setting) (levels : ℕ) (ps : List Policy) (rows : List Row)
    (errors : List (Text × Failure)) → RunOf mode s calls levels ps rows errors → HaveNoResidual rows
    → IsResponse mode (PolicyRuns s calls levels) ps (concretized mode rows errors)

-- the policies that are carried on are the rows, each once
abbrev pub EachIsCarriedOnce : Type 0
EachIsCarriedOnce = (rows : List Row) → IsReordering Row rows (rows_by permit rows ++ rows_by forbid rows)
