-- Steps that leave no residual, by what is listed.
use Rattle.std.specs.Prelude.{◌≡◌, false, List}
use Rattle.cedar_model.specs.Terms.{Text}
use Rattle.cedar_model.specs.World.{World, Functions}
use Rattle.cedar_model.specs.Settings.{Store}
use Rattle.cedar_model.specs.Agreement.{AgreesWithFunctions, EachStored, IsValue, NeverAsks}
use Rattle.cedar_model.specs.Policies.{Policy}
use Rattle.cedar_model.specs.Configurations.{Configuration}
use Rattle.cedar_model.specs.Responses.{Stand}
use Rattle.cedar_model.specs.Chains.{Mapping, Response}
use Rattle.cedar_model.specs.Reports.{HaveNoResidual}
use Rattle.cedar_model.specs.laws.Reports.{AreDecidedAs}
use Rattle.cedar_laws.specs.Faithful.{MapHoldsNoExtensionValue, NoneAnswers}
use Rattle.cedar_authorizer.specs.declared.responses.partial_response.PartialResponse.{PartialResponse}
use Rattle.cedar_authorizer.specs.responses.Rows.{rows_view}
use Rattle.cedar_unknowns.specs.Naming.{NamesListed, response_occurrences}

-- the store is concrete and holds values alone, and the map names all that is listed of this response, with values that
-- hold no extension value
pub record GivesAllListed (step : Mapping × Store) (old : Response) : Type 0 where
  pub store_is_concrete : step.1.is_partial ≡ false
  pub stored_are_values : EachStored IsValue step.1
  pub listed_are_named : NamesListed step.0 (response_occurrences old)
  pub values_hold_none : MapHoldsNoExtensionValue step.0

module _ (c : Configuration) (step : Mapping × Store) (old : Response) where
  -- such a step leaves no residual, where no function asks; and where the rows stand, what they are made concrete as is
  -- what the policies decide
  abbrev pub FinishesByLists : PartialResponse → Type 0
  FinishesByLists r =
      GivesAllListed step old → (ans : Functions) → AgreesWithFunctions ans c.calls → ((f : Text) → NeverAsks ans f)
      → HaveNoResidual (rows_view r)
      × ((w : World) (ps : List Policy) → Stand c.mode c.extensions ans w ps (rows_view r)
      → AreDecidedAs c.mode c.extensions ans w ps (rows_view r))

  -- nor does it where there is no function
  abbrev pub FinishesWithoutFunctions : PartialResponse → Type 0
  FinishesWithoutFunctions r = GivesAllListed step old → NoneAnswers c.calls → HaveNoResidual (rows_view r)
