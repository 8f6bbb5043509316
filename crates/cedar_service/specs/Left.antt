-- What is left of an engine's policies for a request of which parts may be unknown.
use Rattle.std.specs.Prelude.{◌≡◌, false, Option, Some, None, Ok, codes, string_bytes}
use Rattle.json.specs.Json.{Json}
use Rattle.json.specs.Print.{print}
use Rattle.json.specs.Tree.{json_tokens}
use Rattle.cedar_model.specs.Terms.{Text, EntityName}
use Rattle.cedar_model.specs.World as world
use Rattle.cedar_model.specs.Rules.{StoredCalls}
use Rattle.cedar_model.specs.Policies as model
use Rattle.cedar_model.specs.Settings as settings
use Rattle.cedar_model.specs.Settings.{shallow, ContextPart, absent_context, known_entry, unknown_entry}
use Rattle.cedar_model.specs.Configurations.{Configuration, configured}
use Rattle.cedar_layers.specs.declared.policies.entities.Entities.{Entities}
use Rattle.cedar_layers.specs.declared.policies.policy_set.PolicySet.{PolicySet}
use Rattle.cedar_requests.specs.declared.context.Context.{Context}
use Rattle.cedar_requests.specs.declared.request.Request.{Request}
use Rattle.cedar_requests.specs.Contexts.{context_view}
use Rattle.cedar_requests.specs.Requests.{request_view}
use Rattle.cedar_authorizer.specs.declared.responses.partial_response.PartialResponse.{PartialResponse}
use Rattle.cedar_authorizer.specs.responses.Responses.{errors_view}
use Rattle.cedar_authorizer.specs.responses.Rows.{rows_view}
use Rattle.cedar_authorizer.specs.Responding.{considered, IsKnownRun}
use Rattle.cedar_authorizer.specs.Running.{IsRun, ResponseStands, IsDeepEnough, errors_of, request_of}
use Rattle.cedar_json_writer.specs.Responses.{IsPartialResponseJson}
use Rattle.cedar_text_lexer.specs.declared.errors.ReadError.{ReadError}
use Rattle.cedar_text_parser.specs.Paths.{IsPathRefused}
use Rattle.cedar_json_reader.specs.NamedEntities.{IsTextOf}
use Rattle.cedar_json_reader.specs.SaidContexts.{context_said, IsContextOf}
use Rattle.cedar_endpoints.specs.Asked.{Named}
use Rattle.cedar_endpoints.specs.Partials.{Entry, of_any, of_type, of_name, of_text, Partial}
use Rattle.cedar_endpoints.specs.declared.replies.Remainder.{Remainder}
use Rattle.cedar_endpoints.specs.declared.replies.Remainder.TheVariants as remainders
use Rattle.cedar_service.specs.declared.engine.Engine.{Engine}
use Rattle.cedar_service.specs.declared.faults.Refusal.{Refusal}
use Rattle.cedar_service.specs.declared.faults.Refusal.TheVariants as refusals
use Rattle.cedar_service.specs.declared.brought.Unbrought.{Unbrought}
use Rattle.cedar_service.specs.declared.brought.Unbrought.TheVariants as unbroughts
use Rattle.cedar_service.specs.Brought.{IsBroughtBy, IsUnbroughtBy, IsExcessBy}
use Rattle.cedar_service.specs.Engines.{policies_of, entities_of}
use Rattle.cedar_service.specs.Faults.{IsFault, IsFaultBelow}
use Rattle.cedar_service.specs.Standard.{standard_extensions, standard_calls}
use Rattle.cedar_service.specs.Ways.{Ways}
use Rattle.cedar_service.specs.Started.{is_read_memory}
use Rattle.cedar_service.specs.Asked.{levels, entity_said, IsUnnamed, IsContextUnsaid}
use Rattle.cedar_service.specs.Decided.{setting_of}
use Rattle.cedar_service.specs.Searched.{sample_named, type_alone}

-- ---- the request that is asked

-- the entity of a type and an id is known
abbrev pub IsKnownEntry : Named → settings.Entry → Type 0
IsKnownEntry n e = (u : EntityName) × (entity_said n ≡ Ok u) × (e ≡ known_entry u)

-- of that entity the type alone is known
abbrev pub IsOpenEntry : Text → settings.Entry → Type 0
IsOpenEntry t e = (k : settings.Entry) × IsKnownEntry (sample_named t) k × (e ≡ type_alone k)

-- the entity that the text writes is known
abbrev pub IsTextEntry : Text → settings.Entry → Type 0
IsTextEntry t e = (u : EntityName) × IsTextOf t u × (e ≡ known_entry u)

abbrev pub IsEntryOf : Entry → settings.Entry → Type 0
IsEntryOf of_any e = e ≡ unknown_entry None
IsEntryOf (of_type t) e = IsOpenEntry t e
IsEntryOf (of_name n) e = IsKnownEntry n e
IsEntryOf (of_text t) e = IsTextEntry t e

-- the context that the JSON says; where none is given it is unknown
abbrev pub IsContextIfGiven : world.Extensions → StoredCalls → Option Json → ContextPart → Type 0
IsContextIfGiven X calls None c = c ≡ absent_context
IsContextIfGiven X calls (Some j) c =
    (d : Context) × IsContextOf X calls levels (context_said j) d × (c ≡ context_view d)

pub record IsAskedPartly (X : world.Extensions) (calls : StoredCalls) (q : Partial) (r : Request) : Type 0 where
  pub principal : IsEntryOf q.principal (request_view r).principal_entry
  pub action : IsEntryOf q.action (request_view r).action_entry
  pub resource : IsEntryOf q.resource (request_view r).resource_entry
  pub context : IsContextIfGiven X calls q.context (request_view r).context_part

-- ---- why there is none

-- the type is no name, and that is told of this path
abbrev pub IsNoName : Named → Text → Text → Type 0
IsNoName n path t = IsUnnamed n × IsFault path (codes "not a name") t

-- the text writes no entity, and that is told of this path
abbrev pub IsNoText : Text → Text → Text → Type 0
IsNoText text path t =
    ((e : ReadError) × (is_read_memory e ≡ false) × IsPathRefused text e) × IsFaultBelow path t

abbrev pub IsNoEntry : Entry → Text → Text → Type 0
IsNoEntry of_any path t = ⊥
IsNoEntry (of_type n) path t = IsNoName (sample_named n) path t
IsNoEntry (of_name n) path t = IsNoName n path t
IsNoEntry (of_text x) path t = IsNoText x path t

-- an entity is wrong, and that is told of where it stands
pub data AreUnentered (q : Partial) (t : Text) : Type 0 where
  no_principal : IsNoEntry q.principal (codes "$.principal") t → AreUnentered q t
  no_action : IsNoEntry q.action (codes "$.action") t → AreUnentered q t
  wrong_resource : IsNoEntry q.resource (codes "$.resource") t → AreUnentered q t

-- that, or the context is wrong
pub data IsUnaskedPartly (X : world.Extensions) (calls : StoredCalls) (q : Partial) (t : Text) : Type 0 where
  no_entries : AreUnentered q t → IsUnaskedPartly X calls q t
  wrong_context : IsContextUnsaid X calls q.context t → IsUnaskedPartly X calls q t

-- ---- what is left

-- how an authorizer is configured that skips errors, and evaluates as deep as it must
abbrev pub unlimited : world.Extensions → StoredCalls → Configuration
unlimited X calls = configured calls model.skip shallow X 18446744073709551615

-- the response is one that the policies have by the rules of evaluation, and it stands in every completion; where
-- nothing is unknown it is what they mean; and no limit is met
pub record IsPartialTo (X : world.Extensions) (calls : StoredCalls) (ps : PolicySet) (s : Entities) (r : Request)
    (a : PartialResponse) : Type 0 where
  pub by_rules : IsRun (unlimited X calls) (setting_of X r s) (considered ps) a
  pub stands : ResponseStands (unlimited X calls) (setting_of X r s) (considered ps) a
  pub by_meaning : IsKnownRun (unlimited X calls) (setting_of X r s) (considered ps) (rows_view a) (errors_of a)
  pub deep : IsDeepEnough (unlimited X calls) (setting_of X r s) (considered ps) a
  pub request_is : request_of a ≡ r

-- the text is the partial response as JSON
abbrev pub IsPartialText : PartialResponse → Text → Type 0
IsPartialText a t =
    (j : Json)
    × IsPartialResponseJson (request_view a.request.value) (rows_view a) (errors_view a.errors.items) j
    × (t ≡ print (json_tokens j))

abbrev pub IsRemainderOf : PartialResponse → Remainder → Type 0
IsRemainderOf a (remainders.Told response) = IsPartialText a (string_bytes response)
IsRemainderOf a (remainders.Refused error) = ⊥
IsRemainderOf a (remainders.TooLarge error) = ⊥

-- nothing is told, as this is so of the error
abbrev pub IsUntoldAs : (Text → Type 0) → Remainder → Type 0
IsUntoldAs Is (remainders.Told response) = ⊥
IsUntoldAs Is (remainders.Refused error) = Is (string_bytes error)
IsUntoldAs Is (remainders.TooLarge error) = ⊥

-- nothing is told since the request brings too much, as this is so of the error
abbrev pub IsUntoldOf : (Text → Type 0) → Remainder → Type 0
IsUntoldOf Is (remainders.Told response) = ⊥
IsUntoldOf Is (remainders.Refused error) = ⊥
IsUntoldOf Is (remainders.TooLarge error) = Is (string_bytes error)

-- nothing is told, with what the refusal tells
abbrev pub IsUntoldFor : Refusal → Remainder → Type 0
IsUntoldFor refusals.Memory o = ⊥
IsUntoldFor (refusals.Told t) (remainders.Told response) = ⊥
IsUntoldFor (refusals.Told t) (remainders.Refused error) = error ≡ t
IsUntoldFor (refusals.Told t) (remainders.TooLarge error) = ⊥

-- the same where no entities are brought; for private clauses
abbrev pub IsUnbroughtRemainder : Unbrought → Remainder → Type 0
IsUnbroughtRemainder (unbroughts.Refused r) o = IsUntoldFor r o
IsUnbroughtRemainder (unbroughts.TooLarge t) (remainders.Told response) = ⊥
IsUnbroughtRemainder (unbroughts.TooLarge t) (remainders.Refused error) = ⊥
IsUnbroughtRemainder (unbroughts.TooLarge t) (remainders.TooLarge error) = error ≡ t

-- what is left for a request over a store
abbrev pub LeavesFor : world.Extensions → StoredCalls → Engine → Entities → Request → Remainder → Type 0
LeavesFor X calls e s r o =
    (a : PartialResponse) × IsPartialTo X calls (policies_of e) s r a × IsRemainderOf a o

-- what is left for a request over the entities and those that the text brings, if it may; or why it brings none, or that
-- it brings too much
pub data IsLeftOver (X : world.Extensions) (calls : StoredCalls) (e : Engine) (w : Ways) (text : Text) (r : Request)
    (o : Remainder) : Type 0 where
  brought : (s : Entities) → IsBroughtBy X calls w (entities_of e) text s → LeavesFor X calls e s r o
      → IsLeftOver X calls e w text r o
  not_brought : IsUntoldAs (IsUnbroughtBy X calls w (entities_of e) text) o → IsLeftOver X calls e w text r o
  too_large : IsUntoldOf (IsExcessBy w text) o → IsLeftOver X calls e w text r o

-- that, for the request that is asked; or why none is
pub data IsLeftWith (X : world.Extensions) (calls : StoredCalls) (e : Engine) (w : Ways) (q : Partial) (text : Text)
    (o : Remainder) : Type 0 where
  left : (r : Request) → IsAskedPartly X calls q r → IsLeftOver X calls e w text r o → IsLeftWith X calls e w q text o
  not_asked_partly : IsUntoldAs (IsUnaskedPartly X calls q) o → IsLeftWith X calls e w q text o

-- with the standard extensions
abbrev pub IsLeft : Engine → Ways → Partial → Text → Remainder → Type 0
IsLeft = IsLeftWith standard_extensions standard_calls
