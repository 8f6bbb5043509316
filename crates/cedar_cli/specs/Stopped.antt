-- Why a partial answer is refused: what can't be read, and the step that can't be taken.
use Rattle.std.specs.Prelude.{◌≡◌, ◌++◌, ◌<◌, ◌⊎◌, true, false, List, [], ◌∷◌, map, length}
use Rattle.std.specs.Prelude.{Option, Some, None, Err, is_some}
use Rattle.std.specs.Rc.{rc_str_bytes}
use Rattle.std.specs.declared.alloc.Global.{Global}
use Rattle.std.specs.declared.rc.RcStr.{RcStr}
use Rattle.cedar_model.specs.Terms.{Text}
use Rattle.cedar_model.specs.Values.{Represented}
use Rattle.cedar_model.specs.World as world
use Rattle.cedar_model.specs.Rules.{StoredCalls}
use Rattle.cedar_model.specs.Policies as model
use Rattle.cedar_model.specs.Refusals.{Refusal}
use Rattle.cedar_model.specs.Configurations.{Configuration}
use Rattle.cedar_model.specs.Chains.{ChainStep, Mapping, has_limit}
use Rattle.cedar_functions.specs.Functions.{Knowledge}
use Rattle.cedar_layers.specs.declared.policies.entities.Entities.{Entities}
use Rattle.cedar_layers.specs.declared.policies.policy_set.PolicySet.{PolicySet}
use Rattle.cedar_layers.specs.Stores.{store_view}
use Rattle.cedar_requests.specs.declared.context.Context.{Context}
use Rattle.cedar_requests.specs.Contexts.{context_values}
use Rattle.cedar_requests.specs.Requests.{request_view}
use Rattle.cedar_values.specs.Compared.{represented_eq}
use Rattle.cedar_values.specs.Sound.{Placed}
use Rattle.cedar_unknowns.specs.Themselves.{entity_values}
use Rattle.cedar_text_parser.specs.PolicyReading.{AreAllRead}
use Rattle.cedar_text_parser.specs.declared.policies.ParsedPolicies.{ParsedPolicies}
use Rattle.cedar_json_reader.specs.JsonTexts.{SaysSo}
use Rattle.cedar_json_reader.specs.SaidContexts.{context_said, IsContextOf}
use Rattle.cedar_authorizer.specs.declared.responses.partial_response.PartialResponse.{PartialResponse}
use Rattle.cedar_authorizer.specs.Configured.{asked_of}
use Rattle.cedar_authorizer.specs.Responding.{considered}
use Rattle.cedar_authorizer.specs.Running.{errors_of, request_of, IsRun}
use Rattle.cedar_authorizer.specs.Steps.{response_said, IsStep}
use Rattle.cedar_cli.specs.declared.asked.Asked.{Asked}
use Rattle.cedar_cli.specs.declared.asked.Source.{Source}
use Rattle.cedar_cli.specs.declared.asked.Step.{Step}
use Rattle.cedar_cli.specs.declared.asked.Way.{Way}
use Rattle.cedar_cli.specs.declared.steps.Taken.{Taken}
use Rattle.cedar_cli.specs.Questions.{levels, IsPartialRequest, IsGivenStore}
use Rattle.cedar_cli.specs.Reasons.{ArePoliciesUnread, IsPartialContextUnread, IsPartialUnread, IsStoreUnread}
use Rattle.cedar_cli.specs.Steps.{step_map, values_in, entities_lacked, AreValuesSaid, IsStoreAfter}
use Rattle.cedar_cli.specs.Stages.{last_in, partial_configuration, AreTaken}

-- ---- steps that can't be read

-- of the values that the JSON says one holds an unknown
pub record HoldUnknown (X : world.Extensions) (calls : StoredCalls) (text : Text) : Type 0 where
  pub values : Context
  pub said : SaysSo text (λ j. IsContextOf X calls levels (context_said j) values)
  pub not_known : is_some (context_values values) ≡ false

-- the values of a step can't be read, or are not known
pub data AreValuesUnread (X : world.Extensions) (calls : StoredCalls) (s : Source) : Type 0 where
  values_unread : IsPartialContextUnread X calls (Some s) → AreValuesUnread X calls s
  values_unknown : HoldUnknown X calls s.text.now → AreValuesUnread X calls s

-- its values or its entities can't be read
pub data IsStepUnread (X : world.Extensions) (calls : StoredCalls) (s : Step) : Type 0 where
  for_values : AreValuesUnread X calls s.values → IsStepUnread X calls s
  for_store : IsStoreUnread X calls s.entities s.max_ancestors → IsStepUnread X calls s

-- those of one of these steps
abbrev pub IsOneUnread : world.Extensions → StoredCalls → List Step → Type 0
IsOneUnread X calls [] = ⊥
IsOneUnread X calls (s ∷ ss) = IsStepUnread X calls s ⊎ IsOneUnread X calls ss

-- ---- a step that can't be taken

-- there is another value than this one
abbrev pub IsAnother : Option Represented → Represented → Type 0
IsAnother None v = ⊥
IsAnother (Some w) v = represented_eq w v ≡ false

-- one of these values is for a name that the map has another value for
abbrev pub GivesAnother : Mapping → List (RcStr Global × Placed) → Type 0
GivesAnother m [] = ⊥
GivesAnother m (e ∷ es) = IsAnother (m (rc_str_bytes e.0)) e.1.what ⊎ GivesAnother m es

module _ (c : Configuration) where
  -- from this response, with this store before it: a recursion limit is recorded; or a value is given for an entity
  -- that stores lacked, and is not that entity; or the definition refuses the step
  pub data StopsAt (step : Step) (before : Entities) (r : PartialResponse) : Type 0 where
    past_limit : has_limit (errors_of r) ≡ true → StopsAt step before r
    gives_another : (values : Context) → AreValuesSaid c.extensions c.calls step.values.text.now values
        → GivesAnother (entity_values (entities_lacked r)) (values_in values) → StopsAt step before r
    is_refused : (values : Context) (after : Entities)
        → AreValuesSaid c.extensions c.calls step.values.text.now values
        → IsStoreAfter c.extensions c.calls step before after → (e : Refusal)
        → IsStep c (step_map values r, store_view after) (response_said r) (Err e) → StopsAt step before r

  -- the steps before it are taken in turn, and it can't be
  pub record AreStopped (first : PartialResponse) (store : Entities) (steps : List Step) : Type 0 where
    pub later : List Taken
    pub step : Step
    pub rest : List Step
    pub steps_are : map (λ t. t.step) later ++ step ∷ rest ≡ steps
    pub before : Entities
    pub chain : List ChainStep
    pub taken : AreTaken c first store later before chain
    pub stops : StopsAt step before (last_in first later)

  -- behind the first response
  pub record AreBegunAndStopped (ps : List model.Policy) (store : Entities) (q : Asked) (steps : List Step)
      : Type 0 where
    pub first : PartialResponse
    pub request_is : IsPartialRequest c.extensions c.calls q (request_of first)
    pub begins : IsRun c (asked_of c (request_view (request_of first)) (store_view store)) ps first
    pub stopped : AreStopped first store steps

  -- why there are no stages: there are more steps than are taken, one can't be read, the request can't, or one can't
  -- be taken
  pub data AreNoStages (ps : List model.Policy) (store : Entities) (q : Asked) (steps : List Step) : Type 0 where
    too_many : 1000 < length steps → AreNoStages ps store q steps
    for_one_step : IsOneUnread c.extensions c.calls steps → AreNoStages ps store q steps
    for_partial_request : IsPartialUnread c.extensions c.calls q → AreNoStages ps store q steps
    for_stop : AreBegunAndStopped ps store q steps → AreNoStages ps store q steps

  -- why steps are not taken from a response: there are more of them than are taken, one can't be read, or one can't be
  -- taken
  pub data AreNotTakenFrom (first : PartialResponse) (store : Entities) (steps : List Step) : Type 0 where
    too_many_from : 1000 < length steps → AreNotTakenFrom first store steps
    unread_from : IsOneUnread c.extensions c.calls steps → AreNotTakenFrom first store steps
    stopped_from : AreStopped first store steps → AreNotTakenFrom first store steps

-- ---- the whole

-- of these policies over this store
abbrev pub IsPartlyUnansweredOver : world.Extensions → StoredCalls → PolicySet → Entities → Asked → List Step → Way
    → Type 0
IsPartlyUnansweredOver X calls ps store q steps w =
    AreNoStages (partial_configuration X calls w) (considered ps) store q steps

-- of these policies: the entities can't be read, or over their store there are no stages
pub data IsPartlyUnansweredBy (X : world.Extensions) (calls : StoredCalls) (ps : PolicySet) (q : Asked)
    (steps : List Step) (w : Way) : Type 0 where
  for_given_store : IsStoreUnread X calls q.entities q.max_ancestors → IsPartlyUnansweredBy X calls ps q steps w
  for_stages : (store : Entities) → IsGivenStore X calls q store → IsPartlyUnansweredOver X calls ps store q steps w
      → IsPartlyUnansweredBy X calls ps q steps w

-- the policies can't be read, or of those that the text's tokens derive there is no answer
pub data IsPartlyUnanswered (k : Knowledge) (X : world.Extensions) (calls : StoredCalls) (text : Text) (q : Asked)
    (steps : List Step) (w : Way) : Type 0 where
  for_all_policies : ArePoliciesUnread k text → IsPartlyUnanswered k X calls text q steps w
  for_answer : (parsed : ParsedPolicies) → AreAllRead k text levels parsed
      → IsPartlyUnansweredBy X calls parsed.policies q steps w → IsPartlyUnanswered k X calls text q steps w
