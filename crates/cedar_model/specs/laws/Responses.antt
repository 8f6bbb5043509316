-- The laws of runs and steps, which the functions of `responses` have as their contracts.
use Rattle.std.specs.Prelude.{ℕ, List}
use Rattle.cedar_model.specs.Terms.{Text}
use Rattle.cedar_model.specs.World.{World, Extensions, Functions}
use Rattle.cedar_model.specs.Failures.{Failure}
use Rattle.cedar_model.specs.Settings.{Resolution, Setting, Store}
use Rattle.cedar_model.specs.Rules.{StoredCalls}
use Rattle.cedar_model.specs.Agreement.{IsCompletion, CompletesWith}
use Rattle.cedar_model.specs.Policies.{Policy, ErrorHandling}
use Rattle.cedar_model.specs.Configurations.{configured}
use Rattle.cedar_model.specs.Responses.{Row, Stand, RunOf, FitPolicies, AreConditions}
use Rattle.cedar_model.specs.Chains.{Mapping, Response, at_step, StepsTo}
use Rattle.cedar_model.specs.Authorizations.{HaveNoLimit}

-- in every completion that fits the conditions a run stands, if none of its errors is the recursion limit
abbrev pub RunsStand : StoredCalls → Type 0
RunsStand calls =
    (mode : ErrorHandling) (ans : Functions) (w : World) (s : Setting) → CompletesWith calls ans w s
    → (levels : ℕ) (ps : List Policy) (rows : List Row) (errors : List (Text × Failure)) → FitPolicies ans w ps
    → HaveNoLimit errors → RunOf mode s calls levels ps rows errors → Stand mode s.extensions ans w ps rows

-- a step keeps completions: a world that completes the request before it, with the map and the store, completes the
-- request after it
abbrev pub StepsKeepCompletions : StoredCalls → Type 0
StepsKeepCompletions calls =
    (mode : ErrorHandling) (resolution : Resolution) (X : Extensions) (levels : ℕ) (ans : Functions) (w : World)
    (m : Mapping) (store : Store) (old new : Response)
    → CompletesWith calls ans w (at_step X resolution old.request store m)
    → StepsTo (configured calls mode resolution X levels) m store old new
    → IsCompletion ans w (at_step X resolution new.request store m)

-- a step keeps what stands, in every world that agrees with the request before it, the map and the store, if none of
-- its errors is the recursion limit
abbrev pub StepsKeepWhatStands : StoredCalls → Type 0
StepsKeepWhatStands calls =
    (mode : ErrorHandling) (resolution : Resolution) (X : Extensions) (levels : ℕ) (ans : Functions) (w : World)
    (m : Mapping) (store : Store) (old new : Response)
    → CompletesWith calls ans w (at_step X resolution old.request store m)
    → (ps : List Policy) → AreConditions ps → Stand mode X ans w ps old.rows → HaveNoLimit new.errors
    → StepsTo (configured calls mode resolution X levels) m store old new → Stand mode X ans w ps new.rows
