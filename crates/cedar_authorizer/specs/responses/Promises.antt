-- What a partial response promises of the worlds in which its rows stand.
use Rattle.std.specs.Prelude.{◌≡◌, List, Some}
use Rattle.cedar_model.specs.Terms.{Text}
use Rattle.cedar_model.specs.Outcomes.{has_text}
use Rattle.cedar_model.specs.World.{World, Extensions, Functions}
use Rattle.cedar_model.specs.Policies as model
use Rattle.cedar_model.specs.Policies.{ErrorHandling, counted_each, decision, reasons}
use Rattle.cedar_model.specs.Responses.{Row, Stand}
use Rattle.cedar_model.specs.Authorizations.{Authorized}
use Rattle.cedar_model.specs.Reports.{ids, given_decision, HaveNoResidual}
use Rattle.cedar_model.specs.laws.Reports.{Within}

-- wherever the rows stand, the policies decide so
abbrev pub IsDecisionOf : List Row → model.Decision → Type 0
IsDecisionOf rows d =
    (mode : ErrorHandling) (X : Extensions) (ans : Functions) (w : World) (ps : List model.Policy)
    → Stand mode X ans w ps rows → decision (counted_each mode X ans w ps) ≡ d

-- wherever the rows stand, each of these is a reason
abbrev pub AreReasonsOf : List Row → List Row → Type 0
AreReasonsOf rows must =
    (mode : ErrorHandling) (X : Extensions) (ans : Functions) (w : World) (ps : List model.Policy)
    → Stand mode X ans w ps rows → Within (ids must) (reasons (counted_each mode X ans w ps))

-- wherever the rows stand, each reason is among these
abbrev pub HoldReasonsOf : List Row → List Row → Type 0
HoldReasonsOf rows may =
    (mode : ErrorHandling) (X : Extensions) (ans : Functions) (w : World) (ps : List model.Policy)
    → Stand mode X ans w ps rows → Within (reasons (counted_each mode X ans w ps)) (ids may)

-- a decision that the rows give is this one
abbrev pub KeepsDecision : List Row → model.Decision → Type 0
KeepsDecision rows d = (given : model.Decision) → given_decision rows ≡ Some given → d ≡ given

-- where no residual is left, the response is what the policies decide, and why, wherever the rows stand
abbrev pub IsDecidedByPolicies : List Row → Authorized → Type 0
IsDecidedByPolicies rows r =
    HaveNoResidual rows
    → (mode : ErrorHandling) (X : Extensions) (ans : Functions) (w : World) (ps : List model.Policy)
    → Stand mode X ans w ps rows
    → (r.decided_as ≡ decision (counted_each mode X ans w ps))
    × ((t : Text) → r.is_reason t ≡ has_text t (reasons (counted_each mode X ans w ps)))
