-- The premises of the headline are met where functions agree and answer faithfully, values are faithful, and a world
-- agrees with what is given.
use Rattle.std.specs.Prelude.{List, [], ◌∷◌}
use Rattle.cedar_model.specs.World.{World, Extensions, Functions}
use Rattle.cedar_model.specs.Settings.{Store}
use Rattle.cedar_model.specs.Rules.{StoredCalls}
use Rattle.cedar_model.specs.Agreement.{AgreesWithFunctions, IsFaithfulPart, EachStored, AnswerFaithfully}
use Rattle.cedar_model.specs.Chains.{ChainStep}
use Rattle.cedar_model.specs.Headline.{CompletesStore, CompletesSteps}
use Rattle.cedar_faithful.specs.Owed.{AreFaithfulSteps, CompletesResiduals, AgreesWithSteps, NothingIsOwedOf}

module _ (X : Extensions) (ans : Functions) (w : World) where
  completes_store : (s : Store) → EachStored (IsFaithfulPart X ans) s → CompletesResiduals X ans w s
      → CompletesStore X ans w s
  completes_store s f h = record {
    store_agrees = h.store_agrees;
    stored_values_are_faithful = f;
    stored_residuals_fit = h.stored_residuals_fit;
  }

  completes_steps : (steps : List ChainStep) → AreFaithfulSteps X ans steps → AgreesWithSteps X ans w steps
      → CompletesSteps X ans w steps
  completes_steps [] f h = tt
  completes_steps (step ∷ steps) f h = (
    record { map_agrees = h.0; mapped_values_are_faithful = f.0 },
    completes_store step.store f.1 h.1,
    completes_steps steps f.2 h.2,
  )

pub nothing_is_owed : (calls : StoredCalls) (X : Extensions) (ans : Functions) → AgreesWithFunctions ans calls
    → AnswerFaithfully X ans calls → NothingIsOwedOf calls X ans
nothing_is_owed calls X ans agree faithful mode resolution levels request store ps steps w errors f h = record {
  request_agrees = h.request_agrees;
  context_fits = h.context_fits;
  first_store_agrees = completes_store X ans w store f.store_is_faithful h.first_store_agrees;
  steps_agree = completes_steps X ans w steps f.steps_are_faithful h.steps_agree;
  conditions_fit = h.conditions_fit;
  functions_are_functional = agree;
  context_is_faithful = f.context_is_faithful;
  functions_are_faithful = faithful;
  no_limit_is_recorded = h.no_limit_is_recorded;
}
