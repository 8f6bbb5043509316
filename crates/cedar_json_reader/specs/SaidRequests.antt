-- What the JSON of a request says, and what becomes of it.
use Rattle.std.specs.Prelude.{◌≡◌, ℕ, [], ◌∷◌, Bool, ◌||◌, Option, Some, None, Ok, bytes_eq, codes}
use Rattle.json.specs.Json.{Json}
use Rattle.json.specs.Find.{as_object, get}
use Rattle.cedar_model.specs.Terms.{Text, EntityName, Term}
use Rattle.cedar_model.specs.World as world
use Rattle.cedar_model.specs.Rules.{StoredCalls}
use Rattle.cedar_names.specs.Names.{uid_name}
use Rattle.cedar_requests.specs.declared.context.Context.{Context}
use Rattle.cedar_requests.specs.declared.entry.EntityUIDEntry.{EntityUIDEntry}
use Rattle.cedar_requests.specs.declared.entry.EntityUIDEntry.TheVariants as entries
use Rattle.cedar_requests.specs.declared.request.Request.{Request}
use Rattle.cedar_requests.specs.Requests.{request_parts}
use Rattle.cedar_json_reader.specs.declared.errors.JsonError.{JsonError}
use Rattle.cedar_json_reader.specs.Paths.{at_key}
use Rattle.cedar_json_reader.specs.Refusals.{Said, IsRefusal}
use Rattle.cedar_json_reader.specs.SaidContexts.{context_said, IsContextOf, IsContextRefusal}
use Rattle.cedar_json_reader.specs.SaidEntities.{member_says, object_with}
use Rattle.cedar_json_reader.specs.NamedEntities.{IsNamedAt, IsUnnamedAt}

abbrev pub is_request_key : Text → Bool
is_request_key k =
    bytes_eq k (codes "principal") || (bytes_eq k (codes "action") || (bytes_eq k (codes "resource") || bytes_eq k (codes "context")))

-- an object that has no member but these
abbrev pub object_said : Json → Said Json
object_said j = object_with is_request_key (as_object j) (Ok j)

abbrev pub context_at : Json → Said Term
context_at j = member_says (codes "context") context_said (get (codes "context") j)

-- ---- what becomes of it

-- the entry is known, and is the entity that the member of this key names
abbrev pub IsEntryAt : Text → Json → EntityUIDEntry → Type 0
IsEntryAt k j (entries.Known u l) = IsNamedAt k j (uid_name u)
IsEntryAt k j (entries.Unknown t l) = ⊥

-- the context is given, and is what the record that is said is evaluated to
abbrev pub IsGivenContext : world.Extensions → StoredCalls → ℕ → Said Term → Option Context → Type 0
IsGivenContext x calls n s None = ⊥
IsGivenContext x calls n s (Some c) = IsContextOf x calls n s c

-- with these extensions and so many levels the request that the JSON says is this one
pub record IsRequestOf (x : world.Extensions) (calls : StoredCalls) (n : ℕ) (j : Json) (r : Request) : Type 0 where
  pub object : object_said j ≡ Ok j
  pub principal : IsEntryAt (codes "principal") j (request_parts r).0
  pub action : IsEntryAt (codes "action") j (request_parts r).1
  pub resource : IsEntryAt (codes "resource") j (request_parts r).2
  pub context : IsGivenContext x calls n (context_at j) (request_parts r).3

-- ---- why there is none

-- the first of the three that names no entity, and why
pub data AreUnnamed (j : Json) (e : JsonError) : Type 0 where
  no_principal : IsUnnamedAt (codes "principal") j e → AreUnnamed j e
  no_action : (p : EntityName) → IsNamedAt (codes "principal") j p → IsUnnamedAt (codes "action") j e → AreUnnamed j e
  no_resource : (p a : EntityName) → IsNamedAt (codes "principal") j p → IsNamedAt (codes "action") j a →
      IsUnnamedAt (codes "resource") j e → AreUnnamed j e

-- all three name one
pub data AreNamed (j : Json) : Type 0 where
  all_named : (p a r : EntityName) → IsNamedAt (codes "principal") j p → IsNamedAt (codes "action") j a →
      IsNamedAt (codes "resource") j r → AreNamed j

-- it is no object, or has another member; or it names no entity; or its context is refused or does not evaluate; each
-- only where what comes before is not so; or memory ran out
pub data IsRequestRefusal (x : world.Extensions) (calls : StoredCalls) (n : ℕ) (j : Json) (e : JsonError) : Type 0 where
  no_request : IsRefusal (object_said j) e → IsRequestRefusal x calls n j e
  no_entity : object_said j ≡ Ok j → AreUnnamed j e → IsRequestRefusal x calls n j e
  no_context : object_said j ≡ Ok j → AreNamed j →
      IsContextRefusal x calls n (context_at j) (at_key (codes "context") ∷ []) e → IsRequestRefusal x calls n j e

-- ---- for private clauses

-- the entry is known, and is this entity
abbrev pub IsKnownAs : EntityName → EntityUIDEntry → Type 0
IsKnownAs e (entries.Known u l) = uid_name u ≡ e
IsKnownAs e (entries.Unknown t l) = ⊥
