-- The laws of chains whose steps are taken one by one, which the functions of `steps` have as their contracts.
use Rattle.std.specs.Prelude.{ℕ, List, [], ◌∷◌, ◌++◌, Result}
use Rattle.cedar_model.specs.World.{Extensions}
use Rattle.cedar_model.specs.Settings.{Resolution}
use Rattle.cedar_model.specs.Rules.{StoredCalls}
use Rattle.cedar_model.specs.Policies.{ErrorHandling}
use Rattle.cedar_model.specs.Configurations.{configured}
use Rattle.cedar_model.specs.Refusals.{Refusal}
use Rattle.cedar_model.specs.Chains.{Response, Steps, ChainStep, ChainAnswers, ChainOf}
use Rattle.cedar_model.specs.Authorizations.{HaveNoLimit}

-- a chain whose last response holds no recursion limit goes on by one step more, with the step's own resolution: it
-- answers what the step does
abbrev pub ChainsGoOn : StoredCalls → Type 0
ChainsGoOn calls =
    (mode : ErrorHandling) (resolution : Resolution) (X : Extensions) (levels : ℕ) (first last : Response)
    (steps : List ChainStep) (step : ChainStep) (x : Result Response Refusal)
    → ChainOf (configured calls mode resolution X levels) first steps last → HaveNoLimit last.errors
    → Steps (configured calls mode step.resolution X levels) step.mapping step.store last x
    → ChainAnswers (configured calls mode resolution X levels) first (steps ++ step ∷ []) x
