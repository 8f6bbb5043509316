-- What is decided of texts, and what is printed of it.
use Rattle.std.specs.Prelude.{◌≡◌, ◌↔◌, ◌++◌, ◌==◌, ℕ, Bool, true, false, List, [], length, Option, None, codes}
use Rattle.std.specs.Prelude.{string_bytes}
use Rattle.std.specs.Option.{unwrap_or}
use Rattle.json.specs.Json.{Json}
use Rattle.json.specs.Print.{print}
use Rattle.json.specs.Tree.{json_tokens}
use Rattle.cedar_model.specs.Terms.{Text}
use Rattle.cedar_model.specs.Values.{AbstractValue}
use Rattle.cedar_model.specs.World as world
use Rattle.cedar_model.specs.Rules.{StoredCalls}
use Rattle.cedar_model.specs.Policies as model
use Rattle.cedar_model.specs.Policies.{ErrorHandling, allow, decision, counted_each}
use Rattle.cedar_model.specs.Settings.{Setting, shallow}
use Rattle.cedar_model.specs.Agreement.{HasNothingUnknown, own_world}
use Rattle.cedar_model.specs.Authorizations.{Authorized, IsExactResponse}
use Rattle.cedar_model.specs.Chains.{at_step, no_values}
use Rattle.cedar_model.specs.Configurations.{Configuration, configured}
use Rattle.cedar_decisions.specs.Decisions.{decision_view, mode_view}
use Rattle.cedar_layers.specs.declared.policies.entities.Entities.{Entities}
use Rattle.cedar_layers.specs.declared.policies.policy_set.PolicySet.{PolicySet}
use Rattle.cedar_layers.specs.Policies.{PolicyView}
use Rattle.cedar_layers.specs.PolicySets.{policies_view}
use Rattle.cedar_layers.specs.Stores.{store_view}
use Rattle.cedar_requests.specs.declared.request.Request.{Request}
use Rattle.cedar_requests.specs.Requests.{request_view}
use Rattle.cedar_text_parser.specs.PolicyReading.{AreAllRead}
use Rattle.cedar_text_parser.specs.declared.policies.ParsedPolicies.{ParsedPolicies}
use Rattle.cedar_standard_functions.specs.Standard.{standard_answers}
use Rattle.cedar_authorizer.specs.declared.responses.response.Response.{Response}
use Rattle.cedar_authorizer.specs.responses.Responses.{has_id, response_view}
use Rattle.cedar_authorizer.specs.Responding.{considered, IsKnownResponse, MeetsNoLimit}
use Rattle.cedar_authorizer.specs.Running.{IsConcreteRun}
use Rattle.cedar_cli.specs.declared.asked.Asked.{Asked}
use Rattle.cedar_cli.specs.declared.asked.Way.{Way}
use Rattle.cedar_cli.specs.declared.decisions.Printed.{Printed}
use Rattle.cedar_cli.specs.Printing.{status, word, partial_word}
use Rattle.cedar_cli.specs.Named.{AreNameLines}
use Rattle.cedar_cli.specs.Documents.{IsResponseDocument}
use Rattle.cedar_cli.specs.Questions.{levels, IsWholeRequest, IsKnownStore}
use Rattle.cedar_cli.specs.Standard.{standard_extensions, standard_calls, standard_knowledge}

-- ---- what is printed

-- the text begins with this
abbrev pub Begins : Text → Text → Type 0
Begins first text = (rest : Text) × (text ≡ first ++ rest)

-- it begins with the word of a decision, or of one that is not known
abbrev pub BeginsWithWord : Text → Type 0
BeginsWithWord text = (d : Option model.Decision) × Begins (partial_word d) text

-- no line below the first one does
abbrev pub HasNoWordBelow : Text → Type 0
HasNoWordBelow text = (above below : Text) → text ≡ above ++ (codes "\n" ++ below) → ¬ BeginsWithWord below

-- the policies that determined the decision, a line each, in the order of the set; or that there are none
abbrev pub AreReasonLines : Bool → (Text → Bool) → List PolicyView → Text → Type 0
AreReasonLines true is_reason ps lines = lines ≡ codes "\nnote: no policies applied to this request\n"
AreReasonLines false is_reason ps lines =
    (names : Text) × AreNameLines is_reason ps names
    × (lines ≡ codes "\nnote: this decision was due to the following policies:\n" ++ names)

-- these are no lines, unless they are asked for
abbrev pub AreReasonsIf : Bool → List PolicyView → Response → Text → Type 0
AreReasonsIf false ps r lines = lines ≡ []
AreReasonsIf true ps r lines =
    AreReasonLines (length r.diagnostics.reason.keys == 0) (has_id r.diagnostics.reason) ps lines

-- the decision's word stands first, on a line of its own, and alone unless more is asked for; no other line begins with
-- such a word; and the exit status is the decision's
pub record IsWord (is_verbose : Bool) (ps : List PolicyView) (r : Response) (p : Printed) : Type 0 where
  pub lines : Text
  pub reasons : AreReasonsIf is_verbose ps r lines
  pub status_is : p.status ≡ status (decision_view r.decision)
  pub output_is : string_bytes p.output ≡ word (decision_view r.decision) ++ (codes "\n" ++ lines)
  pub no_other : HasNoWordBelow (string_bytes p.output)

-- one JSON value, which says the response, stands on a line, and the exit status is the decision's
pub record IsDocument (text : Text) (ps : List PolicyView) (r : Response) (p : Printed) : Type 0 where
  pub document : Json
  pub document_is : IsResponseDocument text ps r document
  pub status_is : p.status ≡ status (decision_view r.decision)
  pub output_is : string_bytes p.output ≡ print (json_tokens document) ++ codes "\n"

abbrev pub IsPrintedAs : Bool → Bool → Text → List PolicyView → Response → Printed → Type 0
IsPrintedAs false is_verbose text ps r p = IsWord is_verbose ps r p
IsPrintedAs true is_verbose text ps r p = IsDocument text ps r p

-- the response, of the policies of a text, is printed in this way, as JSON or not
abbrev pub IsPrinted : Text → PolicySet → Way → Response → Printed → Type 0
IsPrinted text ps w r p = IsPrintedAs w.is_json w.is_verbose text (policies_view ps) r p

-- ---- what is decided

-- the limit of levels that is set or, where none is, one more than a text may have
abbrev pub limit_in : Option ℕ → ℕ
limit_in o = unwrap_or o 4001

-- how an authorizer is configured that decides in this way, with these extensions
abbrev pub configuration_of : world.Extensions → StoredCalls → Way → Configuration
configuration_of X calls w = configured calls (mode_view w.error_handling) shallow X (limit_in w.limit)

-- what it is asked: this request over this store
abbrev pub setting_of : world.Extensions → Request → Entities → Setting
setting_of X r s = at_step X shallow (request_view r) (store_view s) no_values

-- the response is one that the policies have, by the rules of evaluation; and where nothing is unknown, by what they
-- mean
pub record IsResponseTo (X : world.Extensions) (calls : StoredCalls) (ps : PolicySet) (s : Entities) (r : Request)
    (w : Way) (a : Authorized) : Type 0 where
  pub by_rules : IsConcreteRun (configuration_of X calls w) (setting_of X r s) (considered ps) a
  pub by_meaning : IsKnownResponse (configuration_of X calls w) (setting_of X r s) (considered ps) a
  pub within_limit : MeetsNoLimit (configuration_of X calls w) (setting_of X r s) (considered ps) a.errors

-- of these policies, of this text, and this store: there is a request that is asked, and what is printed is the
-- response to it
pub record IsAnsweredOver (X : world.Extensions) (calls : StoredCalls) (text : Text) (ps : PolicySet) (s : Entities)
    (q : Asked) (w : Way) (p : Printed) : Type 0 where
  pub request : Request
  pub response : Response
  pub request_is : IsWholeRequest X calls q request
  pub response_is : IsResponseTo X calls ps s request w (response_view response)
  pub printed : IsPrinted text ps w response p

-- of these policies: there is the closed store that is given
pub record IsAnsweredBy (X : world.Extensions) (calls : StoredCalls) (text : Text) (ps : PolicySet) (q : Asked)
    (w : Way) (p : Printed) : Type 0 where
  pub entities : Entities
  pub store_is : IsKnownStore X calls q entities
  pub answered : IsAnsweredOver X calls text ps entities q w p

-- decision, reasons and errors are exactly those that the policies have by what they mean
abbrev pub IsExact : ErrorHandling → PolicySet → Entities → Request → Authorized → Type 0
IsExact mode ps s r a =
    (sigma : Text → AbstractValue)
    → IsExactResponse mode standard_extensions standard_answers (own_world (setting_of standard_extensions r s) sigma)
    (considered ps) a

-- `ALLOW` stands first exactly where the policies allow in the world of the request and the store
abbrev pub IsAllowedExactly : ErrorHandling → PolicySet → Entities → Request → Text → Type 0
IsAllowedExactly mode ps s r output =
    (sigma : Text → AbstractValue)
    → Begins (word allow) output
    ↔ (decision (counted_each mode standard_extensions standard_answers
    (own_world (setting_of standard_extensions r s) sigma) (considered ps)) ≡ allow)

-- the whole: there are policies, entities, a request and a response, of which all of this is so
pub record IsAuthorized (text : Text) (q : Asked) (w : Way) (p : Printed) : Type 0 where
  pub parsed : ParsedPolicies
  pub entities : Entities
  pub request : Request
  pub response : Response
  -- the policies are those that the text's tokens derive
  pub policies_are : AreAllRead standard_knowledge text levels parsed
  -- the entities, each with all its ancestors, and the request are those that the texts say
  pub store_is : IsKnownStore standard_extensions standard_calls q entities
  pub request_is : IsWholeRequest standard_extensions standard_calls q request
  -- nothing is unknown in them
  pub nothing_unknown : HasNothingUnknown (setting_of standard_extensions request entities)
  -- decision, reasons and errors are those of the policies; without a limit that is set, exactly
  pub response_is :
      IsResponseTo standard_extensions standard_calls parsed.policies entities request w (response_view response)
  pub exact : w.limit ≡ None
      → IsExact (mode_view w.error_handling) parsed.policies entities request (response_view response)
  -- and it is that response that is printed: so, without JSON, `ALLOW` exactly where the policies allow
  pub printed : IsPrinted text parsed.policies w response p
  pub allows : w.limit ≡ None → w.is_json ≡ false
      → IsAllowedExactly (mode_view w.error_handling) parsed.policies entities request (string_bytes p.output)
