-- What is read of steps, made of them, and printed step by step: for private clauses.
use Rattle.std.specs.Prelude.{◌≡◌, ◌++◌, ◌||◌, ⊤, Bool, true, false, List, [], ◌∷◌, map}
use Rattle.std.specs.Prelude.{Option, Some, None, Result, Ok, Err}
use Rattle.std.specs.declared.alloc.AllocError.{AllocError}
use Rattle.json.specs.Json.{Json}
use Rattle.cedar_model.specs.Terms.{Text}
use Rattle.cedar_model.specs.Outcomes.{text_eq}
use Rattle.cedar_model.specs.World as world
use Rattle.cedar_model.specs.Rules.{StoredCalls}
use Rattle.cedar_model.specs.Settings.{RequestPart, Store as StorePart}
use Rattle.cedar_model.specs.Policies as model
use Rattle.cedar_model.specs.Configurations.{Configuration}
use Rattle.cedar_model.specs.Refusals.{Refusal}
use Rattle.cedar_model.specs.Chains.{ChainStep, has_limit}
use Rattle.cedar_model.specs.Authorizations.{HaveNoLimit}
use Rattle.cedar_layers.specs.declared.policies.entities.Entities.{Entities}
use Rattle.cedar_layers.specs.declared.policies.policy.Policy.{Policy}
use Rattle.cedar_layers.specs.Policies.{PolicyView, policy_view}
use Rattle.cedar_layers.specs.Stores.{store_view}
use Rattle.cedar_authorizer.specs.declared.responses.partial_response.PartialResponse.{PartialResponse}
use Rattle.cedar_authorizer.specs.declared.responses.err.AuthorizationError.{AuthorizationError}
use Rattle.cedar_authorizer.specs.declared.reauthorization.err.ReauthorizationError.{ReauthorizationError}
use Rattle.cedar_authorizer.specs.declared.reauthorization.err.ReauthorizationError.TheVariants as reauthorizations
use Rattle.cedar_authorizer.specs.Running.{errors_of}
use Rattle.cedar_authorizer.specs.Steps.{response_said, IsStep}
use Rattle.cedar_authorizer.specs.ByHand.{ChainGives}
use Rattle.cedar_cli.specs.declared.asked.Source.{Source}
use Rattle.cedar_cli.specs.declared.asked.Step.{Step}
use Rattle.cedar_cli.specs.declared.steps.StepInput.{StepInput}
use Rattle.cedar_cli.specs.declared.steps.Taken.{Taken}
use Rattle.cedar_cli.specs.declared.stores.Store.{Store}
use Rattle.cedar_cli.specs.Named.{IsLineWhere}
use Rattle.cedar_cli.specs.Documents.{IsPlacedError}
use Rattle.cedar_cli.specs.Questions.{IsStoreSaid}
use Rattle.cedar_unknowns.specs.Themselves.{entity_values}
use Rattle.cedar_cli.specs.Steps.{step_map, values_in, open_names, some_open, entities_lacked, AreValuesSaid}
use Rattle.cedar_cli.specs.Stopped.{GivesAnother}
use Rattle.cedar_cli.specs.Stages.{last_in, AreTaken, IsWordOf, IsStageDocument}

-- ---- what is read

-- the store that a step brings, if it brings one
abbrev pub IsOwnStore : world.Extensions → StoredCalls → Option Source → Bool → Option Store → Type 0
IsOwnStore X calls None is_partial None = Unit {0}
IsOwnStore X calls None is_partial (Some s) = ⊥
IsOwnStore X calls (Some t) is_partial None = ⊥
IsOwnStore X calls (Some t) is_partial (Some s) = IsStoreSaid X calls t.text.now is_partial s.entities

-- what is read of a step's texts
pub record IsInput (X : world.Extensions) (calls : StoredCalls) (i : StepInput) : Type 0 where
  pub values_are : AreValuesSaid X calls i.step.values.text.now i.values
  pub store_is : IsOwnStore X calls i.step.entities i.step.is_partial i.store

abbrev pub EachInput : world.Extensions → StoredCalls → List StepInput → Type 0
EachInput X calls [] = Unit {0}
EachInput X calls (i ∷ is) = IsInput X calls i × EachInput X calls is

-- what is read of these steps, in order
pub record AreInputs (X : world.Extensions) (calls : StoredCalls) (steps : List Step) (inputs : List StepInput)
    : Type 0 where
  pub steps_are : map (λ i. i.step) inputs ≡ steps
  pub each : EachInput X calls inputs

-- ---- what is made of it

-- its own store, or else the one before
abbrev pub store_or : Option Store → Store → Store
store_or None before = before
store_or (Some s) before = s

-- the step with this response stands behind the others
pub record AddsTaken (step : Step) (response : Option PartialResponse) (before after : List Taken) : Type 0 where
  pub taken : Taken
  pub step_is : taken.step ≡ step
  pub response_is : taken.response ≡ response
  pub is_behind : after ≡ before ++ taken ∷ []

-- the input brings no store, and names nothing that the response leaves open
pub record IsIdle (i : StepInput) (r : PartialResponse) : Type 0 where
  pub no_store : i.store ≡ None
  pub names_none : some_open (open_names r) (values_in i.values) ≡ false

-- by an input that is taken over this store
pub record IsStepTaken (c : Configuration) (i : StepInput) (s : Entities) (r next : PartialResponse) : Type 0 where
  pub no_limit : HaveNoLimit (errors_of r)
  pub steps : IsStep c (step_map i.values r, store_view s) (response_said r) (Ok next)

abbrev pub IsTakenBy : Configuration → StepInput → Entities → PartialResponse → Option PartialResponse → Type 0
IsTakenBy c i s r None = IsIdle i r
IsTakenBy c i s r (Some next) = IsStepTaken c i s r next

-- the step lacked memory
abbrev pub IsMemory : ReauthorizationError → Type 0
IsMemory (reauthorizations.ErrorHandlingConflict response authorizer) = ⊥
IsMemory (reauthorizations.PolicySetError e) = ⊥
IsMemory (reauthorizations.ConcretizationError e) = ⊥
IsMemory (reauthorizations.Memory e) = ⊤

-- an input can't be taken over this store
pub data IsHalted (c : Configuration) (i : StepInput) (s : Entities) (r : PartialResponse) : Type 0 where
  by_limit : has_limit (errors_of r) ≡ true → IsHalted c i s r
  by_another : GivesAnother (entity_values (entities_lacked r)) (values_in i.values) → IsHalted c i s r
  by_refusal : (e : Refusal) → IsStep c (step_map i.values r, store_view s) (response_said r) (Err e)
      → IsHalted c i s r

-- a chain that gives the one response gives the other with these steps more
abbrev pub GoesOn : Configuration → PartialResponse → List ChainStep → PartialResponse → Type 0
GoesOn c first chain last =
    (request : RequestPart) (store : StorePart) (ps : List model.Policy) → ChainGives c request store ps [] (Ok first)
    → ChainGives c request store ps chain (Ok last)

-- all these steps in turn
pub record AreAllTaken (c : Configuration) (first : PartialResponse) (store : Entities) (steps : List Step)
    (later : List Taken) : Type 0 where
  pub last_store : Entities
  pub chain : List ChainStep
  pub steps_are : map (λ t. t.step) later ≡ steps
  pub taken : AreTaken c first store later last_store chain
  pub goes_on : GoesOn c first chain (last_in first later)

-- ---- what is printed

-- a response's word, with lines below it, stands behind this
abbrev pub AddsWord : PartialResponse → Text → Text → Type 0
AddsWord r before after = (text : Text) × IsWordOf r text × (after ≡ before ++ text)

-- the line of a policy, where its id is one of these, stands behind this
abbrev pub AddsNameLine : (Text → Bool) → PolicyView → Text → Text → Type 0
AddsNameLine is p before after = (line : Text) × IsLineWhere (is p.id) p line × (after ≡ before ++ line)

-- the document of a response behind this step stands behind these
abbrev pub AddsDocument : Text → List PolicyView → Step → PartialResponse → List Json → List Json → Type 0
AddsDocument text ps step r before after =
    (j : Json) × IsStageDocument text ps (Some step) r j × (after ≡ before ++ j ∷ [])

-- that of an error
abbrev pub AddsPlacedError : Text → AuthorizationError → List Json → List Json → Type 0
AddsPlacedError text e before after = (j : Json) × IsPlacedError text e j × (after ≡ before ++ j ∷ [])

-- the id of this policy is among those that are named then; no policy, no names
abbrev pub NamesNext : Result Policy AllocError → (Text → Bool) → (Text → Bool) → Type 0
NamesNext (Ok p) before after = (t : Text) → after t ≡ (text_eq t (policy_view p).id || before t)
NamesNext (Err e) before after = ⊥
