-- What `authorize --explain --json` answers to texts: the decision, with an explanation beside it.
use Rattle.std.specs.Prelude.{◌≡◌, ◌++◌, Bool, List, [], ◌∷◌, codes, string_bytes}
use Rattle.json.specs.Json.{Json}
use Rattle.cedar_model.specs.Terms.{Text}
use Rattle.cedar_model.specs.World as world
use Rattle.cedar_model.specs.Rules.{StoredCalls}
use Rattle.cedar_decisions.specs.Decisions.{mode_view}
use Rattle.cedar_layers.specs.declared.policies.entities.Entities.{Entities}
use Rattle.cedar_layers.specs.declared.policies.policy_set.PolicySet.{PolicySet}
use Rattle.cedar_requests.specs.declared.request.Request.{Request}
use Rattle.cedar_text_parser.specs.PolicyReading.{AreAllRead}
use Rattle.cedar_text_parser.specs.declared.policies.ParsedPolicies.{ParsedPolicies}
use Rattle.cedar_explain_printer.specs.Explanations.{IsReachedIn}
use Rattle.cedar_explain_json.specs.Explanations.{IsExplanationJson}
use Rattle.cedar_json_lines.specs.Objects.{object_line}
use Rattle.cedar_cli.specs.declared.asked.Asked.{Asked}
use Rattle.cedar_cli.specs.declared.asked.Way.{Way}
use Rattle.cedar_cli.specs.declared.decisions.Printed.{Printed}
use Rattle.cedar_cli.specs.Authorized.{IsAuthorized, limit_in}
use Rattle.cedar_cli.specs.Batch.{in_json}
use Rattle.cedar_cli.specs.Explained.{given}
use Rattle.cedar_cli.specs.Questions.{levels, IsWholeRequest, IsKnownStore}
use Rattle.cedar_cli.specs.Standard.{standard_extensions, standard_calls, standard_knowledge}

-- ---- the explanation

-- the value is that of an explanation of these policies, of this text, for this request over this store
abbrev pub IsExplainedOf : world.Extensions → StoredCalls → Text → PolicySet → Entities → Request → Way → Bool → Json
    → Type 0
IsExplainedOf X calls text ps s r w has_values j =
    IsExplanationJson text (IsReachedIn (given X s r) calls (limit_in w.limit)) ps (mode_view w.error_handling)
    has_values j

-- over this store: there is a request that is asked
pub record IsExplainedOver (X : world.Extensions) (calls : StoredCalls) (text : Text) (ps : PolicySet) (s : Entities)
    (q : Asked) (w : Way) (has_values : Bool) (j : Json) : Type 0 where
  pub request : Request
  pub request_is : IsWholeRequest X calls q request
  pub explained : IsExplainedOf X calls text ps s request w has_values j

-- of these policies: there is the closed store that is given
pub record IsExplainedBy (X : world.Extensions) (calls : StoredCalls) (text : Text) (ps : PolicySet) (q : Asked)
    (w : Way) (has_values : Bool) (j : Json) : Type 0 where
  pub entities : Entities
  pub store_is : IsKnownStore X calls q entities
  pub over : IsExplainedOver X calls text ps entities q w has_values j

-- there are policies, those that the text's tokens derive
pub record IsExplained (text : Text) (q : Asked) (w : Way) (has_values : Bool) (j : Json) : Type 0 where
  pub parsed : ParsedPolicies
  pub policies_are : AreAllRead standard_knowledge text levels parsed
  pub by : IsExplainedBy standard_extensions standard_calls text parsed.policies q w has_values j

-- ---- the decision

-- `authorize` prints an object of the decision as JSON, of these members; printed is that object with this explanation as
-- its last member, and the exit status is the decision's
pub record IsDecidedBeside (text : Text) (q : Asked) (w : Way) (explanation : Json) (p : Printed) : Type 0 where
  pub decided : Printed
  pub decided_is : IsAuthorized text q (in_json w) decided
  pub first : Text × Json
  pub more : List (Text × Json)
  pub members_are : string_bytes decided.output ≡ object_line (first ∷ more)
  pub output_is : string_bytes p.output ≡ object_line (first ∷ more ++ (codes "explanation", explanation) ∷ [])
  pub status_is : p.status ≡ decided.status

-- ---- the whole: there is an explanation, and the decision stands beside it

pub record IsExplainedAsJson (text : Text) (q : Asked) (w : Way) (has_values : Bool) (p : Printed) : Type 0 where
  pub explanation : Json
  pub explanation_is : IsExplained text q w has_values explanation
  pub decided : IsDecidedBeside text q w explanation p
