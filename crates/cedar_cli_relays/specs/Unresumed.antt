-- Why a line is not taken further.
use Rattle.std.specs.Prelude.{⊤, List}
use Rattle.cedar_model.specs.Terms.{Text}
use Rattle.cedar_model.specs.World as world
use Rattle.cedar_model.specs.Rules.{StoredCalls}
use Rattle.cedar_functions.specs.Functions.{Knowledge}
use Rattle.cedar_layers.specs.declared.policies.entities.Entities.{Entities}
use Rattle.cedar_authorizer.specs.declared.responses.partial_response.PartialResponse.{PartialResponse}
use Rattle.cedar_policy_json_reader.specs.JsonTexts.{depth_for}
use Rattle.cedar_response_json_reader.specs.declared.errors.ResponseJsonError.{ResponseJsonError}
use Rattle.cedar_response_json_reader.specs.declared.errors.ResponseJsonError.TheVariants as errors
use Rattle.cedar_response_json_reader.specs.JsonTexts.{IsTextRefusal}
use Rattle.cedar_response_json_reader.specs.Responses.{IsWhyNotRead, response_said}
use Rattle.cedar_cli.specs.declared.asked.Asked.{Asked}
use Rattle.cedar_cli.specs.declared.asked.Step.{Step}
use Rattle.cedar_cli.specs.declared.asked.Way.{Way}
use Rattle.cedar_cli.specs.Questions.{levels, IsGivenStore}
use Rattle.cedar_cli.specs.Reasons.{IsStoreUnread}
use Rattle.cedar_cli.specs.Stopped.{AreNotTakenFrom}
use Rattle.cedar_cli_relays.specs.Saved.{configuration_as, SaysResponse}

-- the error is not out of memory
abbrev pub IsOfLine : ResponseJsonError → Type 0
IsOfLine errors.Syntax = ⊤
IsOfLine (errors.Refused p r) = ⊤
IsOfLine (errors.Memory e) = ⊥

-- with these extensions, of these names, whose functions may answer this
module _ (X : world.Extensions) (calls : StoredCalls) (names : List Text) where
  -- the text says no response: this is the reader's error
  pub record IsLineUnread (k : Knowledge) (text : Text) : Type 0 where
    pub error : ResponseJsonError
    pub of_line : IsOfLine error
    pub refused : IsTextRefusal (depth_for levels) text
        (λ j. IsWhyNotRead X calls levels (response_said k levels names j)) error

  -- the entities can't be read, or over their store the steps are not taken
  pub data IsNotTakenOn (first : PartialResponse) (q : Asked) (steps : List Step) (w : Way) : Type 0 where
    for_store_of_steps : IsStoreUnread X calls q.entities q.max_ancestors → IsNotTakenOn first q steps w
    for_steps : (store : Entities) → IsGivenStore X calls q store
        → AreNotTakenFrom (configuration_as X calls first w) first store steps
        → IsNotTakenOn first q steps w

  -- the line can't be read, or the response that it says is not taken further
  pub data IsNotResumed (k : Knowledge) (text : Text) (q : Asked) (steps : List Step) (w : Way) : Type 0 where
    for_line : IsLineUnread k text → IsNotResumed k text q steps w
    for_response : (first : PartialResponse) → SaysResponse X calls names k text first
        → IsNotTakenOn first q steps w → IsNotResumed k text q steps w
