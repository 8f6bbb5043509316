-- Which request an evaluation asks, and why it asks none.
use Rattle.std.specs.Prelude.{IsSomeAnd, ◌≡◌, ◌||◌, ⊤, Bool, true, false, Option, Some, None, Ok, Err, is_some, codes}
use Rattle.json.specs.Find.{get}
use Rattle.json.specs.Json.{Json, object, member, no_members, string, document}
use Rattle.cedar_model.specs.Terms.{Text, EntityName, Term}
use Rattle.cedar_model.specs.Values.{no_represented_at}
use Rattle.cedar_model.specs.World as world
use Rattle.cedar_model.specs.Rules.{StoredCalls}
use Rattle.cedar_model.specs.Settings.{ContextPart, absent_context, known_context, residual_context}
use Rattle.cedar_model.specs.Settings.{known_entry}
use Rattle.cedar_requests.specs.declared.context.Context.{Context}
use Rattle.cedar_requests.specs.declared.errors.ContextCreationError.{ContextCreationError}
use Rattle.cedar_requests.specs.declared.errors.ContextCreationError.TheVariants as creations
use Rattle.cedar_requests.specs.declared.request.Request.{Request}
use Rattle.cedar_requests.specs.Contexts.{context_view}
use Rattle.cedar_requests.specs.Creations.{is_record, IsCreated}
use Rattle.cedar_requests.specs.Requests.{request_view}
use Rattle.cedar_errors.specs.declared.evaluator.err.EvaluationError.{EvaluationError}
use Rattle.cedar_json_reader.specs.JsonTexts.{SaysSo, IsTextError}
use Rattle.cedar_json_reader.specs.Refusals.{Said, Refusal}
use Rattle.cedar_json_reader.specs.Said.{said, named}
use Rattle.cedar_json_reader.specs.SaidContexts.{context_said, IsContextOf}
use Rattle.cedar_json_reader.specs.SaidRequests.{IsRequestOf, IsRequestRefusal}
use Rattle.cedar_json_reader.specs.declared.errors.JsonError.{JsonError}
use Rattle.cedar_endpoints.specs.Asked.{Evaluation, Named}
use Rattle.cedar_service.specs.Documents.{IsTextFor, without_beside}
use Rattle.cedar_service.specs.Faults.{IsFault, IsFaultBelow, IsOfJson}
pub use Rattle.cedar_service.specs.Levels.{levels}

-- ---- the request of an evaluation

-- the entity of a type, which is to be a name, and an id
abbrev pub entity_said : Named → Said EntityName
entity_said n = named (Some (n.type_name, n.id))

-- the action of this type and this name
abbrev pub action_named : Text → Text → EntityName
action_named ty n = record { type_name = ty; id = n }

-- the context that the JSON says; where none is given, one without attributes
abbrev pub IsContextFor : world.Extensions → StoredCalls → Option Json → Context → Type 0
IsContextFor X calls None c = context_view c ≡ known_context no_represented_at
IsContextFor X calls (Some j) c = IsContextOf X calls levels (context_said j) c

-- the request of the subject, the action, which is of this type, and the resource, in that context
pub record IsAsked (X : world.Extensions) (calls : StoredCalls) (ty : Text) (q : Evaluation) (r : Request)
    : Type 0 where
  pub principal : EntityName
  pub resource : EntityName
  pub context : Context
  pub principal_is : entity_said q.subject ≡ Ok principal
  pub resource_is : entity_said q.resource ≡ Ok resource
  pub context_is : IsContextFor X calls q.context context
  pub request_is : request_view r ≡ record {
    principal_entry = known_entry principal;
    action_entry = known_entry (action_named ty q.action);
    resource_entry = known_entry resource;
    context_part = context_view context;
  }

-- ---- why there is none

-- the type is no name
abbrev pub IsUnnamed : Named → Type 0
IsUnnamed n = (r : Refusal) × (entity_said n ≡ Err r)

-- of what the JSON says no context is made: it is no record, or does not evaluate
pub data IsNoContextOf (X : world.Extensions) (calls : StoredCalls) (t : Term) : Type 0 where
  is_none : is_record t ≡ false → IsNoContextOf X calls t
  fails_as : (e : EvaluationError) → IsCreated X calls levels t (Err (creations.Evaluation e)) → IsNoContextOf X calls t

-- the JSON says no context: it says nothing, or no record, or one that does not evaluate
pub data IsNoContext (X : world.Extensions) (calls : StoredCalls) (j : Json) : Type 0 where
  unsaid : (r : Refusal) → said j ≡ Err r → IsNoContext X calls j
  unmade : (t : Term) → said j ≡ Ok t → IsNoContextOf X calls t → IsNoContext X calls j

abbrev pub IsContextUnsaid : world.Extensions → StoredCalls → Option Json → Text → Type 0
IsContextUnsaid X calls None t = ⊥
IsContextUnsaid X calls (Some j) t = IsNoContext X calls j × IsFaultBelow (codes "$.context") t

-- the subject's type or the resource's is wrong, and that is told
pub data AreUnnamed (q : Evaluation) (t : Text) : Type 0 where
  no_subject : IsUnnamed q.subject → IsFault (codes "$.subject.type") (codes "not a name") t → AreUnnamed q t
  no_resource : IsUnnamed q.resource → IsFault (codes "$.resource.type") (codes "not a name") t → AreUnnamed q t

-- that, or the context is wrong
pub data IsUnasked (X : world.Extensions) (calls : StoredCalls) (q : Evaluation) (t : Text) : Type 0 where
  no_entities : AreUnnamed q t → IsUnasked X calls q t
  no_context : IsContextUnsaid X calls q.context t → IsUnasked X calls q t

-- ---- Cedar's own request

-- whether a request brings entities, or has an id
abbrev pub has_beside : Json → Bool
has_beside j = is_some (get (codes "entities") j) || is_some (get (codes "id") j)

-- the JSON of a request, but for these
abbrev pub request_in : Bool → Json → Json
request_in false j = j
request_in true j = without_beside j

abbrev pub request_json : Json → Json
request_json j = request_in (has_beside j) j

-- the second text is that of the first, but for the entities that it brings and its id
abbrev pub IsRequestText : Text → Text → Type 0
IsRequestText text t = IsSomeAnd (document text) (λ j. IsTextFor (request_json j) t)

-- the request that a text says which brings no entities and has no id
abbrev pub IsSaidBy : world.Extensions → StoredCalls → Text → Request → Type 0
IsSaidBy X calls text r = SaysSo text (λ j. IsRequestOf X calls levels j r)

-- the text says none, as the reader's error tells
pub record IsUnsaidBy (X : world.Extensions) (calls : StoredCalls) (text : Text) (t : Text) : Type 0 where
  pub error : JsonError
  pub of_json : IsOfJson error
  pub refused : IsTextError text (λ j e. IsRequestRefusal X calls levels j e) error
  pub told : IsFaultBelow (codes "$") t

-- the request that the text says, beside the entities that it brings and its id
abbrev pub IsSaid : world.Extensions → StoredCalls → Text → Request → Type 0
IsSaid X calls text r = (t : Text) × IsRequestText text t × IsSaidBy X calls t r

-- it says none
abbrev pub IsUnsaid : world.Extensions → StoredCalls → Text → Text → Type 0
IsUnsaid X calls text s = (t : Text) × IsRequestText text t × IsUnsaidBy X calls t s

-- ---- contexts in which something is unknown

abbrev pub is_known_part : ContextPart → Bool
is_known_part absent_context = false
is_known_part (known_context fs) = true
is_known_part (residual_context fs) = false

-- whether no unknown stands in the context
abbrev pub has_known_context : Request → Bool
has_known_context r = is_known_part (request_view r).context_part

-- ---- for private clauses

-- the error is not that memory ran out
abbrev pub IsOfCreation : ContextCreationError → Type 0
IsOfCreation (creations.NotARecord e) = ⊤
IsOfCreation (creations.Evaluation e) = ⊤
IsOfCreation (creations.ExpressionConstruction e) = ⊤
IsOfCreation (creations.Memory e) = ⊥

-- the JSON of an entity of a type and an id
abbrev pub uid_json : Named → Json
uid_json n =
    object (member (codes "__entity")
    (object (member (codes "type") (string n.type_name) (member (codes "id") (string n.id) no_members)))
    no_members)

-- the request that the JSON says beside entities and an id, or why it says none
abbrev pub IsSaidBeside : world.Extensions → StoredCalls → Json → Request → Type 0
IsSaidBeside X calls j r = (t : Text) × IsTextFor (without_beside j) t × IsSaidBy X calls t r

abbrev pub IsUnsaidBeside : world.Extensions → StoredCalls → Json → Text → Type 0
IsUnsaidBeside X calls j s = (t : Text) × IsTextFor (without_beside j) t × IsUnsaidBy X calls t s
