-- Steps from one response to the next.
use Rattle.std.specs.Prelude.{◌≡◌, ◌≢◌, ℕ, ◌+◌, ◌≤◌, false, List, map, Option, Some, Result, Ok, Err}
use Rattle.std.specs.HashMap.{HashMap}
use Rattle.std.specs.declared.alloc.Global.{Global}
use Rattle.std.specs.declared.hash.BuildHasherDefault.{BuildHasherDefault}
use Rattle.std.specs.declared.hash.FoldHasher.{FoldHasher}
use Rattle.std.specs.declared.rc.RcStr.{RcStr}
use Rattle.cedar_model.specs.World.{World, Functions}
use Rattle.cedar_model.specs.Failures.{recursion_limit}
use Rattle.cedar_model.specs.Settings.{RequestPart, Store, Setting}
use Rattle.cedar_model.specs.Agreement.{AgreesWithFunctions, EachStored, CompletesWith}
use Rattle.cedar_model.specs.Policies.{Policy, ErrorHandling}
use Rattle.cedar_model.specs.Configurations.{Configuration}
use Rattle.cedar_model.specs.Responses.{Stand}
use Rattle.cedar_model.specs.Refusals.{Refusal, mode_is_other, context_fails}
use Rattle.cedar_model.specs.Chains.{Mapping, Response, at_step, all_residuals, is_same_mode, Steps, StepsTo}
use Rattle.cedar_model.specs.laws.Chains.{KeepsWhatIsGiven}
use Rattle.cedar_model.specs.Depth.{IsNoHigher}
use Rattle.cedar_model.specs.Authorizations.{HaveNoLimit, AreNoHigher}
use Rattle.cedar_model.specs.Reports.{HaveNoResidual}
use Rattle.cedar_model.specs.laws.Reports.{AreDecidedAs}
use Rattle.cedar_model.specs.Progress.{NamesAll, LeavesNoResidual}
use Rattle.cedar_values.specs.Sound.{Placed}
use Rattle.cedar_layers.specs.declared.policies.entities.Entities.{Entities}
use Rattle.cedar_layers.specs.Policies.{PolicyView, decides_as}
use Rattle.cedar_layers.specs.Stores.{store_view}
use Rattle.cedar_requests.specs.Requests.{request_view}
use Rattle.cedar_requests.specs.Substitutions.{values_for}
use Rattle.cedar_authorizer.specs.declared.responses.partial_response.PartialResponse.{PartialResponse}
use Rattle.cedar_authorizer.specs.responses.Rows.{mode_of, rows_view}
use Rattle.cedar_authorizer.specs.declared.reauthorization.err.ReauthorizationError.{ReauthorizationError}
use Rattle.cedar_authorizer.specs.reauthorization.Concretizations.{IsConcrete}
use Rattle.cedar_authorizer.specs.reauthorization.Errors.{step_answer_by}
use Rattle.cedar_authorizer.specs.Running.{errors_of, request_of, HoldsRows, IsRun}

-- what a response says, as the model has it, with its rows in the order of its six maps
abbrev pub response_said : PartialResponse → Response
response_said r = record {
  mode = mode_of r;
  request = request_view (request_of r);
  rows = rows_view r;
  errors = errors_of r;
}

-- a response says what one of the model does, whose rows are in its six maps
pub record Says (r : PartialResponse) (a : Response) : Type 0 where
  pub mode_is : a.mode ≡ mode_of r
  pub request_is : a.request ≡ request_view (request_of r)
  pub errors_are : a.errors ≡ errors_of r
  pub held : HoldsRows a.rows r

-- what a step answered: a response, or why it is refused; nothing, where it lacked memory
abbrev pub step_answer : Result PartialResponse ReauthorizationError → Option (Result PartialResponse Refusal)
step_answer = step_answer_by (λ r. r)

-- where response and authorizer handle errors in different ways, that is the refusal, even if out of memory
abbrev pub IsConflict : ErrorHandling → ErrorHandling → Option (Result PartialResponse Refusal) → Type 0
IsConflict authorizer response answer =
    is_same_mode authorizer response ≡ false → answer ≡ Some (Err (mode_is_other response authorizer))

-- values for unknowns, by name
abbrev pub ValuesByName : Type 0
ValuesByName = HashMap (RcStr Global) Placed (BuildHasherDefault FoldHasher)

-- a step: values for unknowns, and a store
abbrev pub step_by : ValuesByName → Entities → Mapping × Store
step_by values entities = (values_for values.entries, store_view entities)

-- ---- a step from a response

module _ (c : Configuration) (step : Mapping × Store) where
  -- what an evaluation under this request is given
  abbrev pub under : RequestPart → Setting
  under r = at_step c.extensions c.resolution r step.1 step.0

  -- these policies run for the request that the map makes of this one, or the request is refused
  abbrev pub IsDecidedAgain : RequestPart → List Policy → Result PartialResponse Refusal → Type 0
  IsDecidedAgain old ps (Ok r) =
      IsConcrete (under old) c.calls c.levels step.0 old (Ok (request_view (request_of r)))
      × IsRun c (under (request_view (request_of r))) ps r
  IsDecidedAgain old ps (Err e) = IsConcrete (under old) c.calls c.levels step.0 old (Err e)

  module _ (old : Response) where
    -- the model's step leads to a response that says this, or is refused so
    abbrev pub IsStep : Result PartialResponse Refusal → Type 0
    IsStep (Ok r) = (new : Response) × StepsTo c step.0 step.1 old new × Says r new
    IsStep (Err e) = Steps c step.0 step.1 old (Err e)

    -- in every world that completes the request before it, the map and the store, what stood before of policies stands
    -- after it, if none of its errors is the recursion limit
    abbrev pub KeepsWhatStands : PartialResponse → Type 0
    KeepsWhatStands r =
        (ans : Functions) (w : World) → CompletesWith c.calls ans w (under old.request)
        → (ps : List PolicyView) → Stand c.mode c.extensions ans w (map decides_as ps) old.rows
        → HaveNoLimit (errors_of r)
        → Stand c.mode c.extensions ans w (map decides_as ps) (rows_view r)

    -- a world that completes the request before it, with the map and the store, completes the request after it
    abbrev pub KeepsCompletions : PartialResponse → Type 0
    KeepsCompletions r =
        (ans : Functions) (w : World) → CompletesWith c.calls ans w (under old.request)
        → CompletesWith c.calls ans w (under (request_view (request_of r)))

    -- nothing is taken back, if none of its errors is the recursion limit
    abbrev pub TakesNothingBack : PartialResponse → Type 0
    TakesNothingBack r = HaveNoLimit (errors_of r) → KeepsWhatIsGiven old (response_said r)

    -- progress: where the map names all, and the store is concrete and no residual is answered from it, no residual is
    -- left; and where the rows stand, what they are made concrete as is what the policies decide
    abbrev pub Finishes : PartialResponse → Type 0
    Finishes r =
        (ans : Functions) → AgreesWithFunctions ans c.calls → step.1.is_partial ≡ false
        → EachStored (LeavesNoResidual ans step.0 c.resolution) step.1 → NamesAll ans step.0 old
        → HaveNoResidual (rows_view r)
        × ((w : World) (ps : List Policy) → Stand c.mode c.extensions ans w ps (rows_view r)
        → AreDecidedAs c.mode c.extensions ans w ps (rows_view r))

    -- the recursion limit is neither among the errors nor why the context is refused
    abbrev pub StepMeetsNoLimit : Result PartialResponse Refusal → Type 0
    StepMeetsNoLimit (Ok r) = HaveNoLimit (errors_of r)
    StepMeetsNoLimit (Err e) = e ≢ context_fails recursion_limit

    -- the depth bound: so it is where all that is given is no higher than b with the map's values in it, and no policy
    -- that is carried on is higher than what the levels have above twice b
    abbrev pub StepIsDeepEnough : Result PartialResponse Refusal → Type 0
    StepIsDeepEnough x =
        (b h : ℕ) → IsNoHigher c.calls (under old.request) step.0 b → AreNoHigher (all_residuals old.rows) h
        → h + (b + b) ≤ c.levels → StepMeetsNoLimit x
