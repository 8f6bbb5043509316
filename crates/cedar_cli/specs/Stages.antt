-- The stages of a partial answer: the first response, and what each step makes of the one before; and what is printed.
use Rattle.std.specs.Prelude.{◌≡◌, ◌++◌, ℕ, Bool, true, false, List, [], ◌∷◌, map}
use Rattle.std.specs.Prelude.{Option, Some, None, Ok, codes, string_bytes}
use Rattle.std.specs.Option.{unwrap_or}
use Rattle.json.specs.Json.{Json, string, array}
use Rattle.json.specs.Print.{print}
use Rattle.json.specs.Value.{items_of}
use Rattle.json.specs.Tree.{json_tokens}
use Rattle.cedar_model.specs.Terms.{Text}
use Rattle.cedar_model.specs.World as world
use Rattle.cedar_model.specs.Rules.{StoredCalls}
use Rattle.cedar_model.specs.Settings.{shallow}
use Rattle.cedar_model.specs.Policies as model
use Rattle.cedar_model.specs.Configurations.{Configuration, configured}
use Rattle.cedar_model.specs.Chains.{ChainStep}
use Rattle.cedar_model.specs.Authorizations.{HaveNoLimit}
use Rattle.cedar_model.specs.Reports.{given_decision}
use Rattle.cedar_decisions.specs.Decisions.{mode_view}
use Rattle.cedar_functions.specs.Functions.{Knowledge}
use Rattle.cedar_layers.specs.declared.policies.entities.Entities.{Entities}
use Rattle.cedar_layers.specs.declared.policies.policy_set.PolicySet.{PolicySet}
use Rattle.cedar_layers.specs.Policies.{PolicyView}
use Rattle.cedar_layers.specs.PolicySets.{policies_view}
use Rattle.cedar_layers.specs.Stores.{store_view}
use Rattle.cedar_requests.specs.declared.context.Context.{Context}
use Rattle.cedar_requests.specs.Requests.{request_view}
use Rattle.cedar_text_parser.specs.PolicyReading.{AreAllRead}
use Rattle.cedar_text_parser.specs.declared.policies.ParsedPolicies.{ParsedPolicies}
use Rattle.cedar_authorizer.specs.declared.responses.partial_response.PartialResponse.{PartialResponse}
use Rattle.cedar_authorizer.specs.responses.Responses.{errors_view}
use Rattle.cedar_authorizer.specs.responses.Rows.{rows_view}
use Rattle.cedar_authorizer.specs.Configured.{asked_of}
use Rattle.cedar_authorizer.specs.Responding.{considered}
use Rattle.cedar_authorizer.specs.Running.{errors_of, request_of, IsRun}
use Rattle.cedar_authorizer.specs.Steps.{response_said, IsStep}
use Rattle.cedar_authorizer.specs.Headline.{IsHeadline}
use Rattle.cedar_authorizer.specs.ByHand.{ChainGives, taken_with}
use Rattle.cedar_json_writer.specs.Texts.{object_of}
use Rattle.cedar_json_writer.specs.Responses.{known_members}
use Rattle.cedar_cli.specs.declared.asked.Asked.{Asked}
use Rattle.cedar_cli.specs.declared.asked.Source.{Source}
use Rattle.cedar_cli.specs.declared.asked.Step.{Step}
use Rattle.cedar_cli.specs.declared.asked.Way.{Way}
use Rattle.cedar_cli.specs.declared.decisions.Printed.{Printed}
use Rattle.cedar_cli.specs.declared.steps.Taken.{Taken}
use Rattle.cedar_cli.specs.Printing.{partial_status, partial_word}
use Rattle.cedar_cli.specs.Named.{is_told}
use Rattle.cedar_cli.specs.Documents.{IsErrorsArray, names_where}
use Rattle.cedar_cli.specs.Questions.{levels, IsPartialRequest, IsGivenStore}
use Rattle.cedar_cli.specs.Steps.{step_map, values_in, open_names, some_open, AreValuesSaid, IsStoreAfter}

-- ---- what is decided

-- the limit of levels that is set or, where none is, the greatest number that there is
abbrev pub levels_in : Option ℕ → ℕ
levels_in o = unwrap_or o 18446744073709551615

-- how the one authorizer is configured that decides each stage in this way, with these extensions
abbrev pub partial_configuration : world.Extensions → StoredCalls → Way → Configuration
partial_configuration X calls w = configured calls (mode_view w.error_handling) shallow X (levels_in w.limit)

-- the response behind a step, or else the one before
abbrev pub response_or : Option PartialResponse → PartialResponse → PartialResponse
response_or None r = r
response_or (Some next) r = next

-- the last response
abbrev pub last_in : PartialResponse → List Taken → PartialResponse
last_in r [] = r
last_in r (t ∷ ts) = last_in (response_or t.response r) ts

module _ (c : Configuration) where
  -- by a step that is taken from a response: over this store, with these values, and not past a recursion limit
  pub record IsTaken (step : Step) (before : Entities) (r : PartialResponse) (values : Context) (after : Entities)
      (next : PartialResponse) : Type 0 where
    pub values_are : AreValuesSaid c.extensions c.calls step.values.text.now values
    pub store_is : IsStoreAfter c.extensions c.calls step before after
    pub no_limit : HaveNoLimit (errors_of r)
    pub steps : IsStep c (step_map values r, store_view after) (response_said r) (Ok next)

  -- a step is not taken: it brings no entities, and names nothing that the response leaves open
  pub record IsNotTaken (step : Step) (r : PartialResponse) (values : Context) : Type 0 where
    pub values_are : AreValuesSaid c.extensions c.calls step.values.text.now values
    pub no_entities : step.entities ≡ None
    pub names_none : some_open (open_names r) (values_in values) ≡ false

  -- so each step in turn makes a response of the one before or is not taken; this is the store then, and these are the
  -- steps of a chain that were taken
  pub data AreTaken (first : PartialResponse) (store : Entities) : List Taken → Entities → List ChainStep → Type 0 where
    none_taken : AreTaken first store [] store []
    one_taken : {ts : List Taken} {before : Entities} {chain : List ChainStep} → AreTaken first store ts before chain
        → (t : Taken) (values : Context) (after : Entities) (next : PartialResponse) → t.response ≡ Some next
        → IsTaken t.step before (last_in first ts) values after next
        → AreTaken first store (ts ++ t ∷ []) after
        (chain ++ taken_with c (step_map values (last_in first ts), store_view after) ∷ [])
    one_left : {ts : List Taken} {before : Entities} {chain : List ChainStep} → AreTaken first store ts before chain
        → (t : Taken) (values : Context) → t.response ≡ None → IsNotTaken t.step (last_in first ts) values
        → AreTaken first store (ts ++ t ∷ []) before chain

-- the first response and those behind steps: a run of these policies for the request that is asked, over this store; of
-- each step the response, by the map and the store that it names; so the last one is what the chain gives, and has the
-- headline
pub record AreStages (c : Configuration) (ps : List model.Policy) (store : Entities) (q : Asked) (steps : List Step)
    (first : PartialResponse) (later : List Taken) : Type 0 where
  pub request_is : IsPartialRequest c.extensions c.calls q (request_of first)
  pub begins : IsRun c (asked_of c (request_view (request_of first)) (store_view store)) ps first
  pub last_store : Entities
  pub chain : List ChainStep
  pub steps_are : map (λ t. t.step) later ≡ steps
  pub taken : AreTaken c first store later last_store chain
  pub is_chain : ChainGives c (request_view (request_of first)) (store_view store) ps chain (Ok (last_in first later))
  pub headline :
      IsHeadline c (asked_of c (request_view (request_of first)) (store_view store)) ps chain (last_in first later)

-- each step in turn makes a response of the one before or is not taken, from this response and this store on
pub record AreTakenFrom (c : Configuration) (first : PartialResponse) (store : Entities) (steps : List Step)
    (later : List Taken) : Type 0 where
  pub last_store : Entities
  pub chain : List ChainStep
  pub steps_are : map (λ t. t.step) later ≡ steps
  pub taken : AreTaken c first store later last_store chain

-- ---- what is printed

-- the decision that a response gives, if it gives one
abbrev pub decision_in : PartialResponse → Option model.Decision
decision_in r = given_decision (rows_view r)

-- a response's word, on a line of its own, with lines below it
abbrev pub IsWordOf : PartialResponse → Text → Type 0
IsWordOf r text =
    (lines : Text) × (text ≡ partial_word (decision_in r) ++ (codes "\n" ++ (lines ++ codes "\n")))

-- that of each response that a step follows, in order
pub data AreWordsAbove (first : PartialResponse) : List Taken → Text → Type 0 where
  no_words : AreWordsAbove first [] []
  word_below : {ts : List Taken} {above : Text} → AreWordsAbove first ts above → (t : Taken) (text : Text)
      → IsWordOf (last_in first ts) text → AreWordsAbove first (ts ++ t ∷ []) (above ++ text)

-- a response's word stands below this, on a line of its own, and the exit status is that of its decision
pub record IsLastWord (above : Text) (r : PartialResponse) (p : Printed) : Type 0 where
  pub lines : Text
  pub status_is : p.status ≡ partial_status (decision_in r)
  pub output_is : string_bytes p.output ≡ above ++ (partial_word (decision_in r) ++ (codes "\n" ++ lines))

-- the words stand in order, and the last is the last response's, as is the exit status
pub record AreWords (first : PartialResponse) (later : List Taken) (p : Printed) : Type 0 where
  pub above : Text
  pub words : AreWordsAbove first later above
  pub last : IsLastWord above (last_in first later) p

-- the names of a step's files
abbrev pub entities_file : Option Source → List (Text × Json)
entities_file None = []
entities_file (Some source) = (codes "entities", string source.name.now) ∷ []

abbrev pub step_files : Step → List (Text × Json)
step_files s = (codes "values", string s.values.name.now) ∷ entities_file s.entities

-- these files, where there is a step
abbrev pub step_members : Option Step → List (Text × Json)
step_members None = []
step_members (Some s) = (codes "step", object_of (step_files s)) ∷ []

-- an object of all that is known of the response behind a step, if there is one: the files of the step, what the
-- response knows, its errors with their places, and the names of the policies whose ids stand in all that
pub record IsStageDocument (text : Text) (ps : List PolicyView) (step : Option Step) (r : PartialResponse) (j : Json)
    : Type 0 where
  pub errors : Json
  pub errors_are : IsErrorsArray text r.errors.items errors
  pub is_object : j ≡ object_of (step_members step ++ (known_members (request_view (request_of r)) (rows_view r)
      ++ (codes "errors", errors)
      ∷ (codes "names", object_of (names_where (is_told (rows_view r) (errors_view r.errors.items)) ps)) ∷ []))

-- those of the first response and of each behind a step, in order
pub data AreDocuments (text : Text) (ps : List PolicyView) (first : PartialResponse)
    : List Taken → List Json → Type 0 where
  one_document : {j : Json} → IsStageDocument text ps None first j → AreDocuments text ps first [] (j ∷ [])
  document_behind : {ts : List Taken} {js : List Json} → AreDocuments text ps first ts js → (t : Taken) (j : Json)
      → IsStageDocument text ps (Some t.step) (last_in first (ts ++ t ∷ [])) j
      → AreDocuments text ps first (ts ++ t ∷ []) (js ++ j ∷ [])

-- of no step the one alone, of more an array of them
abbrev pub IsOfDocuments : List Taken → List Json → Json → Type 0
IsOfDocuments [] js j = js ≡ j ∷ []
IsOfDocuments (t ∷ ts) js j = j ≡ array (items_of js)

-- one JSON value says them
pub record AreDocumented (text : Text) (ps : List PolicyView) (first : PartialResponse) (later : List Taken) (j : Json)
    : Type 0 where
  pub documents : List Json
  pub are : AreDocuments text ps first later documents
  pub is_of : IsOfDocuments later documents j

-- it stands on a line, and the exit status is that of the last response's decision
pub record AreInDocument (text : Text) (ps : List PolicyView) (first : PartialResponse) (later : List Taken)
    (p : Printed) : Type 0 where
  pub document : Json
  pub says : AreDocumented text ps first later document
  pub status_is : p.status ≡ partial_status (decision_in (last_in first later))
  pub output_is : string_bytes p.output ≡ print (json_tokens document) ++ codes "\n"

-- the responses, of the policies of a text, are printed as JSON or not
abbrev pub ArePrintedAs : Bool → Text → List PolicyView → PartialResponse → List Taken → Printed → Type 0
ArePrintedAs false text ps first later p = AreWords first later p
ArePrintedAs true text ps first later p = AreInDocument text ps first later p

-- ---- the whole

-- of these policies, of this text, over this store: there are stages, and they are printed
pub record IsPartlyAnsweredOver (X : world.Extensions) (calls : StoredCalls) (text : Text) (ps : PolicySet)
    (store : Entities) (q : Asked) (steps : List Step) (w : Way) (p : Printed) : Type 0 where
  pub first : PartialResponse
  pub later : List Taken
  pub stages : AreStages (partial_configuration X calls w) (considered ps) store q steps first later
  pub printed : ArePrintedAs w.is_json text (policies_view ps) first later p

-- of these policies: there is the closed store that is given
pub record IsPartlyAnsweredBy (X : world.Extensions) (calls : StoredCalls) (text : Text) (ps : PolicySet) (q : Asked)
    (steps : List Step) (w : Way) (p : Printed) : Type 0 where
  pub store : Entities
  pub store_is : IsGivenStore X calls q store
  pub answered : IsPartlyAnsweredOver X calls text ps store q steps w p

-- there are policies, those that the text's tokens derive
pub record IsPartiallyAuthorized (k : Knowledge) (X : world.Extensions) (calls : StoredCalls) (text : Text) (q : Asked)
    (steps : List Step) (w : Way) (p : Printed) : Type 0 where
  pub parsed : ParsedPolicies
  pub policies_are : AreAllRead k text levels parsed
  pub answered : IsPartlyAnsweredBy X calls text parsed.policies q steps w p
