-- Where nothing may be unknown: what is known, and where the first unknown stands.
use Rattle.std.specs.Prelude.{ℕ, ◌+◌, Bool, true, false, if◌then◌else◌, List, [], ◌∷◌, ◌++◌}
use Rattle.std.specs.Prelude.{Option, Some, None, option_map, codes}
use Rattle.std.specs.Option.{option_or}
use Rattle.json.specs.Json.{Json}
use Rattle.cedar_model.specs.Terms.{Text, Term, Fields, no_fields, one_field}
use Rattle.cedar_model.specs.Shapes.{has_unknown}
use Rattle.cedar_model.specs.World as world
use Rattle.cedar_model.specs.Rules.{StoredCalls}
use Rattle.cedar_model.specs.Failures.{PartialValue, value, residual}
use Rattle.cedar_model.specs.Settings.{StoredEntity, part_at, names_of, RequestPart, ContextPart}
use Rattle.cedar_model.specs.Settings.{absent_context, known_context, residual_context}
use Rattle.cedar_model.specs.Agreement.{IsValue, IsKnownEntry, IsKnownContext}
use Rattle.cedar_layers.specs.declared.policies.entities.Entity.{Entity}
use Rattle.cedar_layers.specs.Stores.{entity_view}
use Rattle.cedar_requests.specs.declared.context.Context.{Context}
use Rattle.cedar_requests.specs.declared.request.Request.{Request}
use Rattle.cedar_requests.specs.Contexts.{context_view}
use Rattle.cedar_requests.specs.Requests.{request_view}
use Rattle.cedar_json_reader.specs.declared.errors.JsonError.{JsonError}
use Rattle.cedar_json_reader.specs.declared.errors.RefusalReason.TheVariants as reasons
use Rattle.cedar_json_reader.specs.Paths.{Step, at_key, at_index}
use Rattle.cedar_json_reader.specs.Refusals.{Said, IsRefusedAt}
use Rattle.cedar_json_reader.specs.SaidContexts.{IsContextOf, IsContextRefusal}
use Rattle.cedar_json_reader.specs.SaidEntities.{SaidEntity}
use Rattle.cedar_json_reader.specs.SaidRequests.{IsRequestOf, IsRequestRefusal}
use Rattle.cedar_json_reader.specs.Evaluated.{AreEntitiesOf}
use Rattle.cedar_json_reader.specs.FailedEntities.{IsEntitiesError}
use Rattle.cedar_json_reader.specs.Held.{EachHas}

-- ---- what is known

-- each attribute and each tag of these entities is a value
abbrev pub AreKnownEntities : List Entity → Type 0
AreKnownEntities es = EachHas IsValue es

-- principal, action and resource are known, and the context is a value
pub record IsKnownRequest (q : RequestPart) : Type 0 where
  pub principal : IsKnownEntry q.principal_entry
  pub action : IsKnownEntry q.action_entry
  pub resource : IsKnownEntry q.resource_entry
  pub context : IsKnownContext q.context_part

-- ---- where the first unknown stands

-- whether an unknown stands in it
abbrev pub is_left : Option PartialValue → Bool
is_left None = false
is_left (Some (value v)) = false
is_left (Some (residual t)) = true

-- the first of these names under which an unknown stands
abbrev pub first_left : List (Text × PartialValue) → List Text → Option Text
first_left ps [] = None
first_left ps (k ∷ ks) = if is_left (part_at k ps) then Some k else first_left ps ks

-- the way from an entity to the first unknown of its attributes; where they have none, of its tags
abbrev pub unknown_of : StoredEntity → Option (List Step)
unknown_of x =
    option_or (option_map (λ k. at_key (codes "attrs") ∷ at_key k ∷ []) (first_left x.attributes (names_of x.attributes)))
    (option_map (λ k. at_key (codes "tags") ∷ at_key k ∷ []) (first_left x.tags (names_of x.tags)))

-- the way to the first unknown of these entities, the first of which has this index
abbrev pub unknown_from : ℕ → List Entity → Option (List Step)
unknown_from n [] = None
unknown_from n (e ∷ es) = option_or (option_map (λ w. at_index n ∷ w) (unknown_of (entity_view e))) (unknown_from (n + 1) es)

-- the name of the first expression that has an unknown
abbrev pub first_open : Fields → Option Text
first_open no_fields = None
first_open (one_field k t fs) = if has_unknown t then Some k else first_open fs

abbrev pub way_to : Option Text → List Step
way_to None = []
way_to (Some k) = at_key k ∷ []

-- ---- what is refused

-- there is an unknown, and it is refused there; or memory ran out
abbrev pub IsUnknownAt : Option (List Step) → JsonError → Type 0
IsUnknownAt None e = ⊥
IsUnknownAt (Some way) e = IsRefusedAt way reasons.Unknown e

-- the context, which stands there, is not known: at the first of its attributes in which an unknown stands
abbrev pub IsUnknownContext : ContextPart → List Step → JsonError → Type 0
IsUnknownContext absent_context there e = IsRefusedAt there reasons.Unknown e
IsUnknownContext (known_context fs) there e = ⊥
IsUnknownContext (residual_context fs) there e = IsRefusedAt (there ++ way_to (first_open fs)) reasons.Unknown e

-- there is no context; or the one that is said is not known
pub data IsKnownContextRefusal (x : world.Extensions) (calls : StoredCalls) (n : ℕ) (s : Said Term) (there : List Step)
    (e : JsonError) : Type 0 where
  no_context : IsContextRefusal x calls n s there e → IsKnownContextRefusal x calls n s there e
  unknown_context : (c : Context) → IsContextOf x calls n s c → IsUnknownContext (context_view c) there e
      → IsKnownContextRefusal x calls n s there e

-- there are no entities; or those that are said are not known
pub data IsKnownEntitiesError (x : world.Extensions) (calls : StoredCalls) (n : ℕ) (s : Said (List SaidEntity))
    (e : JsonError) : Type 0 where
  no_entities : IsEntitiesError x calls n s e → IsKnownEntitiesError x calls n s e
  unknown_entities : (es : List Entity) → AreEntitiesOf x calls n s es → IsUnknownAt (unknown_from 0 es) e
      → IsKnownEntitiesError x calls n s e

-- there is no request; or the context of the one that is said is not known
pub data IsKnownRequestRefusal (x : world.Extensions) (calls : StoredCalls) (n : ℕ) (j : Json) (e : JsonError)
    : Type 0 where
  no_request : IsRequestRefusal x calls n j e → IsKnownRequestRefusal x calls n j e
  unknown_request : (r : Request) → IsRequestOf x calls n j r
      → IsUnknownContext (request_view r).context_part (at_key (codes "context") ∷ []) e
      → IsKnownRequestRefusal x calls n j e
