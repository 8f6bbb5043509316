-- What is answered in stages of which each may be on another machine: what is printed, and the line that is handed on.
use Rattle.std.specs.Prelude.{◌≡◌, ◌++◌, Bool, List, [], codes, string_bytes}
use Rattle.json.specs.Print.{print}
use Rattle.json.specs.Tree.{json_tokens}
use Rattle.json.specs.Json.{Json}
use Rattle.cedar_model.specs.Terms.{Text}
use Rattle.cedar_model.specs.World as world
use Rattle.cedar_model.specs.Rules.{StoredCalls}
use Rattle.cedar_model.specs.Settings.{shallow}
use Rattle.cedar_model.specs.Configurations.{Configuration, configured}
use Rattle.cedar_functions.specs.Functions.{Knowledge}
use Rattle.cedar_layers.specs.declared.policies.entities.Entities.{Entities}
use Rattle.cedar_layers.specs.declared.policies.policy_set.PolicySet.{PolicySet}
use Rattle.cedar_layers.specs.PolicySets.{policies_view}
use Rattle.cedar_requests.specs.Requests.{request_view}
use Rattle.cedar_text_parser.specs.PolicyReading.{AreAllRead}
use Rattle.cedar_text_parser.specs.declared.policies.ParsedPolicies.{ParsedPolicies}
use Rattle.cedar_authorizer.specs.declared.responses.partial_response.PartialResponse.{PartialResponse}
use Rattle.cedar_authorizer.specs.responses.Rows.{mode_of, rows_view}
use Rattle.cedar_authorizer.specs.Responding.{considered}
use Rattle.cedar_authorizer.specs.Running.{errors_of, request_of}
use Rattle.cedar_policy_json_reader.specs.JsonTexts.{depth_for}
use Rattle.cedar_response_json.specs.Responses.{IsWritten}
use Rattle.cedar_response_json_reader.specs.JsonTexts.{SaysSo}
use Rattle.cedar_response_json_reader.specs.Responses.{Reads, response_said}
use Rattle.cedar_cli.specs.declared.asked.Asked.{Asked}
use Rattle.cedar_cli.specs.declared.asked.Step.{Step}
use Rattle.cedar_cli.specs.declared.asked.Way.{Way}
use Rattle.cedar_cli.specs.declared.steps.Taken.{Taken}
use Rattle.cedar_cli.specs.Questions.{levels, IsGivenStore}
use Rattle.cedar_cli.specs.Stages.{last_in, levels_in, partial_configuration, AreStages, AreTakenFrom, ArePrintedAs}
use Rattle.cedar_cli_relays.specs.declared.relays.Saved.{Saved}

-- the line of a response, with extensions of these names
abbrev pub IsLineOf : List Text → PartialResponse → Text → Type 0
IsLineOf names r t =
    (j : Json) × IsWritten (mode_of r) names (request_view (request_of r)) (rows_view r) (errors_of r) j
    × (t ≡ print (json_tokens j) ++ codes "\n")

-- how what is taken further from a response is decided: as errors are handled there, with the levels of this way
abbrev pub configuration_as : world.Extensions → StoredCalls → PartialResponse → Way → Configuration
configuration_as X calls r w = configured calls (mode_of r) shallow X (levels_in w.limit)

-- the stages are printed, and the line is that of the last response
pub record ArePrintedAndSaved (names : List Text) (text : Text) (ps : PolicySet) (is_json : Bool)
    (first : PartialResponse) (later : List Taken) (s : Saved) : Type 0 where
  pub printed : ArePrintedAs is_json text (policies_view ps) first later s.printed
  pub line : IsLineOf names (last_in first later) (string_bytes s.line)

-- with these extensions, of these names, whose functions may answer this
module _ (X : world.Extensions) (calls : StoredCalls) (names : List Text) where
  -- ---- what policies answer

  -- of these policies, of this text, over this store: there are stages, and they are printed and saved
  pub record IsSavedOver (text : Text) (ps : PolicySet) (store : Entities) (q : Asked) (steps : List Step) (w : Way)
      (s : Saved) : Type 0 where
    pub first : PartialResponse
    pub later : List Taken
    pub stages : AreStages (partial_configuration X calls w) (considered ps) store q steps first later
    pub saved : ArePrintedAndSaved names text ps w.is_json first later s

  -- of these policies: there is the closed store that is given
  pub record IsSavedBy (text : Text) (ps : PolicySet) (q : Asked) (steps : List Step) (w : Way) (s : Saved)
      : Type 0 where
    pub store : Entities
    pub store_is : IsGivenStore X calls q store
    pub over : IsSavedOver text ps store q steps w s

  -- there are policies, those that the text's tokens derive
  pub record IsSaved (k : Knowledge) (text : Text) (q : Asked) (steps : List Step) (w : Way) (s : Saved) : Type 0 where
    pub parsed : ParsedPolicies
    pub policies_are : AreAllRead k text levels parsed
    pub by : IsSavedBy text parsed.policies q steps w s

  -- ---- what is taken further from a line

  -- the line says this response
  abbrev pub SaysResponse : Knowledge → Text → PartialResponse → Type 0
  SaysResponse k text r = SaysSo (depth_for levels) text (λ j. Reads X calls levels (response_said k levels names j) r)

  -- over this store the response is taken further by these steps, in its own way, and the stages are printed, of no
  -- policies but those that it has, and saved
  pub record IsTakenOn (text : Text) (first : PartialResponse) (store : Entities) (steps : List Step) (w : Way)
      (s : Saved) : Type 0 where
    pub later : List Taken
    pub taken : AreTakenFrom (configuration_as X calls first w) first store steps later
    pub no_policies : PolicySet
    pub none_are : policies_view no_policies ≡ []
    pub saved : ArePrintedAndSaved names text no_policies w.is_json first later s

  -- over the closed store that is given
  pub record IsTakenOnOver (text : Text) (first : PartialResponse) (q : Asked) (steps : List Step) (w : Way)
      (s : Saved) : Type 0 where
    pub store : Entities
    pub store_is : IsGivenStore X calls q store
    pub on : IsTakenOn text first store steps w s

  -- the line says a response, which is taken further
  pub record IsResumed (k : Knowledge) (text : Text) (q : Asked) (steps : List Step) (w : Way) (s : Saved)
      : Type 0 where
    pub first : PartialResponse
    pub says : SaysResponse k text first
    pub over : IsTakenOnOver text first q steps w s
