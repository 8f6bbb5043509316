-- What an engine answers.
use Rattle.std.specs.Prelude.{◌≡◌, Bool, true, false, map, codes, string_bytes}
use Rattle.json.specs.Json.{Json}
use Rattle.json.specs.Print.{print}
use Rattle.json.specs.Tree.{json_tokens}
use Rattle.cedar_model.specs.Terms.{Text}
use Rattle.cedar_model.specs.World as world
use Rattle.cedar_model.specs.Rules.{StoredCalls}
use Rattle.cedar_model.specs.Policies as model
use Rattle.cedar_model.specs.Settings.{Setting, shallow}
use Rattle.cedar_model.specs.Authorizations.{Authorized}
use Rattle.cedar_model.specs.Chains.{at_step, no_values}
use Rattle.cedar_model.specs.Configurations.{Configuration, configured}
use Rattle.cedar_decisions.specs.Decisions.{decision_view}
use Rattle.cedar_layers.specs.declared.policies.entities.Entities.{Entities}
use Rattle.cedar_layers.specs.declared.policies.policy_set.PolicySet.{PolicySet}
use Rattle.cedar_layers.specs.Policies.{policy_id_text}
use Rattle.cedar_layers.specs.Stores.{store_view}
use Rattle.cedar_requests.specs.declared.request.Request.{Request}
use Rattle.cedar_requests.specs.Requests.{request_view}
use Rattle.cedar_authorizer.specs.declared.responses.response.Response.{Response}
use Rattle.cedar_authorizer.specs.responses.Responses.{response_view, errors_view}
use Rattle.cedar_authorizer.specs.Responding.{considered, IsKnownResponse, MeetsNoLimit}
use Rattle.cedar_authorizer.specs.Running.{IsConcreteRun}
use Rattle.cedar_json_writer.specs.Responses.{IsResponseJson}
use Rattle.cedar_endpoints.specs.Asked.{Evaluation}
use Rattle.cedar_endpoints.specs.declared.replies.Outcome.{Outcome}
use Rattle.cedar_endpoints.specs.declared.replies.Outcome.TheVariants as outcomes
use Rattle.cedar_service.specs.declared.engine.Engine.{Engine}
use Rattle.cedar_service.specs.declared.faults.Refusal.{Refusal}
use Rattle.cedar_service.specs.declared.faults.Refusal.TheVariants as refusals
use Rattle.cedar_service.specs.declared.brought.Unbrought.{Unbrought}
use Rattle.cedar_service.specs.declared.brought.Unbrought.TheVariants as unbroughts
use Rattle.cedar_service.specs.Brought.{IsBroughtBy, IsUnbroughtBy, IsExcessBy}
use Rattle.cedar_service.specs.Engines.{policies_of, entities_of}
use Rattle.cedar_service.specs.Faults.{IsFault}
use Rattle.cedar_service.specs.Properties.{IsAskedOver, AreUnlaid}
use Rattle.cedar_service.specs.Ways.{Ways}
use Rattle.cedar_service.specs.Standard.{standard_extensions, standard_calls}
use Rattle.cedar_service.specs.Asked.{IsAsked, IsUnasked, IsSaid, IsUnsaid, has_known_context}

-- ---- responses

-- how an authorizer is configured that skips errors, and evaluates so many levels that no policy of a text meets them
abbrev pub configuration_of : world.Extensions → StoredCalls → Configuration
configuration_of X calls = configured calls model.skip shallow X 4001

-- what it is asked: this request over this store
abbrev pub setting_of : world.Extensions → Request → Entities → Setting
setting_of X r s = at_step X shallow (request_view r) (store_view s) no_values

-- the response is one that the policies have, by the rules of evaluation; and where nothing is unknown, by what they
-- mean
pub record IsResponseTo (X : world.Extensions) (calls : StoredCalls) (ps : PolicySet) (s : Entities) (r : Request)
    (a : Authorized) : Type 0 where
  pub by_rules : IsConcreteRun (configuration_of X calls) (setting_of X r s) (considered ps) a
  pub by_meaning : IsKnownResponse (configuration_of X calls) (setting_of X r s) (considered ps) a
  pub within_limit : MeetsNoLimit (configuration_of X calls) (setting_of X r s) (considered ps) a.errors

abbrev pub is_allow : model.Decision → Bool
is_allow model.allow = true
is_allow model.deny = false

-- the text is the response as JSON: its decision, its reasons and its errors
abbrev pub IsResponseText : Response → Text → Type 0
IsResponseText a t = (j : Json)
    × IsResponseJson (decision_view a.decision) (map policy_id_text a.diagnostics.reason.keys)
    (errors_view a.diagnostics.errors.items) j
    × (t ≡ print (json_tokens j))

-- that it is allowed or not is the response's decision, and the context is the response
abbrev pub IsOutcomeOf : Response → Outcome → Type 0
IsOutcomeOf a (outcomes.Decided b context) =
    (b ≡ is_allow (decision_view a.decision)) × IsResponseText a (string_bytes context)
IsOutcomeOf a (outcomes.Refused error) = ⊥
IsOutcomeOf a (outcomes.TooLarge error) = ⊥

-- ---- requests

-- it is refused, as this is so of what is told
abbrev pub IsRefusedAs : (Text → Type 0) → Outcome → Type 0
IsRefusedAs Is (outcomes.Decided b context) = ⊥
IsRefusedAs Is (outcomes.Refused error) = Is (string_bytes error)
IsRefusedAs Is (outcomes.TooLarge error) = ⊥

-- it is refused since the request brings too much, as this is so of what is told
abbrev pub IsTooLargeAs : (Text → Type 0) → Outcome → Type 0
IsTooLargeAs Is (outcomes.Decided b context) = ⊥
IsTooLargeAs Is (outcomes.Refused error) = ⊥
IsTooLargeAs Is (outcomes.TooLarge error) = Is (string_bytes error)

-- it is refused with what the refusal tells
abbrev pub IsRefusalOf : Refusal → Outcome → Type 0
IsRefusalOf refusals.Memory o = ⊥
IsRefusalOf (refusals.Told t) (outcomes.Decided b context) = ⊥
IsRefusalOf (refusals.Told t) (outcomes.Refused error) = error ≡ t
IsRefusalOf (refusals.Told t) (outcomes.TooLarge error) = ⊥

-- the same where no entities are brought; for private clauses
abbrev pub IsUnbroughtOutcome : Unbrought → Outcome → Type 0
IsUnbroughtOutcome (unbroughts.Refused r) o = IsRefusalOf r o
IsUnbroughtOutcome (unbroughts.TooLarge t) (outcomes.Decided b context) = ⊥
IsUnbroughtOutcome (unbroughts.TooLarge t) (outcomes.Refused error) = ⊥
IsUnbroughtOutcome (unbroughts.TooLarge t) (outcomes.TooLarge error) = error ≡ t

-- what is answered to a request: a response of the policies over the store; or where an unknown stands in its context,
-- that
pub data IsAnswered (X : world.Extensions) (calls : StoredCalls) (e : Engine) (s : Entities) (r : Request) (o : Outcome)
    : Type 0 where
  answered : (a : Response) → has_known_context r ≡ true
      → IsResponseTo X calls (policies_of e) s r (response_view a) → IsOutcomeOf a o
      → IsAnswered X calls e s r o
  unknown : has_known_context r ≡ false
      → IsRefusedAs (IsFault (codes "$.context") (codes "an unknown stands in it")) o → IsAnswered X calls e s r o

-- what is decided for the request that is asked: the answer to it over the entities with the properties of the
-- evaluation; or why these are refused
pub data IsDecidedOver (X : world.Extensions) (calls : StoredCalls) (e : Engine) (w : Ways) (q : Evaluation)
    (r : Request) (o : Outcome) : Type 0 where
  laid : (s : Entities) → IsAskedOver X calls w (entities_of e) q s → IsAnswered X calls e s r o
      → IsDecidedOver X calls e w q r o
  not_laid : IsRefusedAs (AreUnlaid X calls w (entities_of e) q) o → IsDecidedOver X calls e w q r o

-- what is decided: that, for the request that is asked; or why none is
pub data IsDecidedWith (X : world.Extensions) (calls : StoredCalls) (e : Engine) (w : Ways) (q : Evaluation)
    (o : Outcome) : Type 0 where
  asked : (r : Request) → IsAsked X calls w.action_type q r → IsDecidedOver X calls e w q r o
      → IsDecidedWith X calls e w q o
  not_asked : IsRefusedAs (IsUnasked X calls q) o → IsDecidedWith X calls e w q o

-- over this store, what is decided for the request that a text says
pub data IsAuthorizedOver (X : world.Extensions) (calls : StoredCalls) (e : Engine) (s : Entities) (text : Text)
    (o : Outcome) : Type 0 where
  said : (r : Request) → IsSaid X calls text r → IsAnswered X calls e s r o → IsAuthorizedOver X calls e s text o
  not_said : IsRefusedAs (IsUnsaid X calls text) o → IsAuthorizedOver X calls e s text o

-- that, over the entities and those that the text brings, if it may; or why it brings none, or that it brings too much
pub data IsAuthorizedWith (X : world.Extensions) (calls : StoredCalls) (e : Engine) (w : Ways) (text : Text)
    (o : Outcome) : Type 0 where
  brought : (s : Entities) → IsBroughtBy X calls w (entities_of e) text s → IsAuthorizedOver X calls e s text o
      → IsAuthorizedWith X calls e w text o
  not_brought : IsRefusedAs (IsUnbroughtBy X calls w (entities_of e) text) o → IsAuthorizedWith X calls e w text o
  too_large : IsTooLargeAs (IsExcessBy w text) o → IsAuthorizedWith X calls e w text o

-- ---- with the standard extensions

abbrev pub IsDecided : Engine → Ways → Evaluation → Outcome → Type 0
IsDecided = IsDecidedWith standard_extensions standard_calls

abbrev pub IsAuthorized : Engine → Ways → Text → Outcome → Type 0
IsAuthorized = IsAuthorizedWith standard_extensions standard_calls
