-- What texts say of a request and of the entities: which request is asked, and over which store.
use Rattle.std.specs.Prelude.{◌≡◌, ◌↔◌, ℕ, ◌+◌, ◌*◌, Bool, true, false, List, [], ◌∷◌, length, map}
use Rattle.std.specs.Prelude.{Option, Some, None, is_some, IfSome}
use Rattle.std.specs.Option.{unwrap_or}
use Rattle.std.specs.Borrow.{Bor}
use Rattle.cedar_model.specs.Terms.{Text, EntityName}
use Rattle.cedar_model.specs.Values.{no_represented_at}
use Rattle.cedar_model.specs.World as world
use Rattle.cedar_model.specs.Rules.{StoredCalls}
use Rattle.cedar_model.specs.Settings.{known_context, is_among}
use Rattle.cedar_model.specs.Agreement.{IsKnownContext, IsValue, EachStored}
use Rattle.cedar_names.specs.Names.{type_name_of, uid_name}
use Rattle.cedar_layers.specs.declared.policies.entities.Entities.{Entities}
use Rattle.cedar_layers.specs.declared.policies.entities.Entity.{Entity}
use Rattle.cedar_layers.specs.Stores.{no_entities, store_view, stored_entity, last_of_each_name, entity_ancestors}
use Rattle.cedar_hierarchy.specs.Ancestry.{recorded, parents_of, AreAlike}
use Rattle.cedar_hierarchy.specs.LeftOut.{IsKeptOrLeftOut}
use Rattle.cedar_hierarchy.specs.Paths.{Leads, AreLedTo}
use Rattle.cedar_requests.specs.declared.context.Context.{Context}
use Rattle.cedar_requests.specs.declared.entry.EntityUIDEntry.{EntityUIDEntry}
use Rattle.cedar_requests.specs.declared.entry.EntityUIDEntry.TheVariants as entries
use Rattle.cedar_requests.specs.declared.request.Request.{Request}
use Rattle.cedar_requests.specs.Contexts.{context_view}
use Rattle.cedar_requests.specs.Requests.{request_parts, request_view}
use Rattle.cedar_functions.specs.Functions.{Knowledge}
use Rattle.cedar_text_parser.specs.Paths.{IsEntityRead, IsNameRead}
use Rattle.cedar_text_parser.specs.PolicyReading.{AreAllRead}
use Rattle.cedar_text_parser.specs.declared.policies.ParsedPolicies.{ParsedPolicies}
use Rattle.cedar_json_reader.specs.JsonTexts.{SaysSo}
use Rattle.cedar_json_reader.specs.SaidContexts.{context_said, IsContextOf}
use Rattle.cedar_json_reader.specs.SaidEntities.{entities_said}
use Rattle.cedar_json_reader.specs.SaidRequests.{IsRequestOf}
use Rattle.cedar_json_reader.specs.Evaluated.{AreEntitiesOf}
use Rattle.cedar_json_reader.specs.NothingUnknown.{IsKnownRequest}
use Rattle.cedar_cli.specs.declared.asked.Asked.{Asked}
use Rattle.cedar_cli.specs.declared.asked.Source.{Source}
use Rattle.cedar_cli.specs.Standard.{standard_knowledge}

-- how many levels a text may have
abbrev pub levels : ℕ
levels = 4000

-- there is a knowledge of functions by which the text's tokens derive these policies
pub record ArePoliciesOf (text : Text) (parsed : ParsedPolicies) : Type 0 where
  pub known : Knowledge
  pub read : AreAllRead known text levels parsed

-- they are those that it derives with the standard functions; where they may have unknowns, with some functions
abbrev pub ArePoliciesFor : Bool → Text → ParsedPolicies → Type 0
ArePoliciesFor false text parsed = AreAllRead standard_knowledge text levels parsed
ArePoliciesFor true text parsed = ArePoliciesOf text parsed

-- ---- requests

-- the entity that is given or, where none is, an unknown one of the type that is given, or of any
abbrev pub IsEntryOf : Option (Bor Text) → Option (Bor Text) → EntityUIDEntry → Type 0
IsEntryOf (Some t) type_name (entries.Known u l) = IsEntityRead t.now u
IsEntryOf (Some t) type_name (entries.Unknown ty l) = ⊥
IsEntryOf None (Some t) (entries.Known u l) = ⊥
IsEntryOf None (Some t) (entries.Unknown None l) = ⊥
IsEntryOf None (Some t) (entries.Unknown (Some ty) l) = IsNameRead t.now (type_name_of ty)
IsEntryOf None None e = e ≡ entries.Unknown None None

-- all three entities are given
pub record AreGiven (q : Asked) : Type 0 where
  pub principal : is_some q.principal ≡ true
  pub action : is_some q.action ≡ true
  pub resource : is_some q.resource ≡ true

-- the context that the JSON says, in which nothing is unknown; where none is given, one without attributes
abbrev pub IsContextSaid : world.Extensions → StoredCalls → Option Source → Context → Type 0
IsContextSaid X calls None c = context_view c ≡ known_context no_represented_at
IsContextSaid X calls (Some s) c =
    SaysSo s.text.now (λ j. IsContextOf X calls levels (context_said j) c) × IsKnownContext (context_view c)

-- the request of the entities and the context that are given
pub record IsOfParts (X : world.Extensions) (calls : StoredCalls) (q : Asked) (r : Request) : Type 0 where
  pub context : Context
  pub principal : IsEntryOf q.principal q.principal_type (request_parts r).0
  pub action : IsEntryOf q.action None (request_parts r).1
  pub resource : IsEntryOf q.resource q.resource_type (request_parts r).2
  pub has_context : (request_parts r).3 ≡ Some context
  pub context_is_said : IsContextSaid X calls q.context context

-- of these, all entities are given
pub record IsWhole (X : world.Extensions) (calls : StoredCalls) (q : Asked) (r : Request) : Type 0 where
  pub given : AreGiven q
  pub parts : IsOfParts X calls q r

-- the request that the JSON says or, where none is given, that of the parts, which are all given
abbrev pub IsWholeOr : world.Extensions → StoredCalls → Option Source → Asked → Request → Type 0
IsWholeOr X calls (Some s) q r = SaysSo s.text.now (λ j. IsRequestOf X calls levels j r)
IsWholeOr X calls None q r = IsWhole X calls q r

-- the request that is asked, in which nothing is unknown
pub record IsWholeRequest (X : world.Extensions) (calls : StoredCalls) (q : Asked) (r : Request) : Type 0 where
  pub said : IsWholeOr X calls q.request q r
  pub known : IsKnownRequest (request_view r)

-- the context that the JSON says; where none is given, it is unknown
abbrev pub IsContextGiven : world.Extensions → StoredCalls → Option Source → Option Context → Type 0
IsContextGiven X calls None c = c ≡ None
IsContextGiven X calls (Some s) None = ⊥
IsContextGiven X calls (Some s) (Some c) = SaysSo s.text.now (λ j. IsContextOf X calls levels (context_said j) c)

-- the request of what is given, in which all else is unknown
pub record IsOfGivenParts (X : world.Extensions) (calls : StoredCalls) (q : Asked) (r : Request) : Type 0 where
  pub principal : IsEntryOf q.principal q.principal_type (request_parts r).0
  pub action : IsEntryOf q.action None (request_parts r).1
  pub resource : IsEntryOf q.resource q.resource_type (request_parts r).2
  pub context : IsContextGiven X calls q.context (request_parts r).3

-- the request that the JSON says or, where none is given, that of the parts that are given
abbrev pub IsPartialOr : world.Extensions → StoredCalls → Option Source → Asked → Request → Type 0
IsPartialOr X calls (Some s) q r = SaysSo s.text.now (λ j. IsRequestOf X calls levels j r)
IsPartialOr X calls None q r = IsOfGivenParts X calls q r

-- the request that is asked, which may be known in part
abbrev pub IsPartialRequest : world.Extensions → StoredCalls → Asked → Request → Type 0
IsPartialRequest X calls q r = IsPartialOr X calls q.request q r

-- ---- stores

-- the store of these entities, each with all entities that its parents lead to, where none leads to itself
pub record IsClosedStore (es : List Entity) (s : Entities) : Type 0 where
  pub entities : (n : EntityName) → AreAlike (last_of_each_name es n) (stored_entity s n)
  pub ancestors : (n m : EntityName) →
      (is_among m (recorded (stored_entity s n)) ≡ true) ↔ Leads (parents_of es) n m
  pub partial : (store_view s).is_partial ≡ false
  pub acyclic : (n : EntityName) → ¬ Leads (parents_of es) n n

-- the same, where there may be more entities: those are left out whose parents lead to one that is not there
pub record IsPartialStore (es : List Entity) (s : Entities) : Type 0 where
  pub entities : (n : EntityName) → IsKeptOrLeftOut es n (last_of_each_name es n) (stored_entity s n)
  pub ancestors : (n : EntityName) → IfSome (stored_entity s n)
      (λ e. AreLedTo (parents_of es) n (map uid_name (entity_ancestors e)))
  pub partial : (store_view s).is_partial ≡ true
  pub acyclic : (n : EntityName) → ¬ Leads (parents_of es) n n

abbrev pub IsClosedAs : Bool → List Entity → Entities → Type 0
IsClosedAs false es s = IsClosedStore es s
IsClosedAs true es s = IsPartialStore es s

-- how many parents entities have, each counted for each entity that has it
abbrev pub parents_in : List Entity → ℕ
parents_in [] = 0
parents_in (e ∷ es) = length (entity_ancestors e) + parents_in es

-- how many ancestors they have at most: no more than if each had all of these parents
abbrev pub at_most_ancestors : List Entity → ℕ
at_most_ancestors es = length es * parents_in es

-- how many ancestors entities may have in all, where nothing else is said
abbrev pub most_in : Option ℕ → ℕ
most_in o = unwrap_or o 5000000

-- the closed store of the entities that the JSON says
pub record IsStoreSaid (X : world.Extensions) (calls : StoredCalls) (text : Text) (is_partial : Bool) (s : Entities)
    : Type 0 where
  pub entities : List Entity
  pub said : SaysSo text (λ j. AreEntitiesOf X calls levels (entities_said j) entities)
  pub closed : IsClosedAs is_partial entities s

-- the same; where no entities are given, the store without any
abbrev pub IsStoreOr : world.Extensions → StoredCalls → Option Source → Bool → Entities → Type 0
IsStoreOr X calls None is_partial s = store_view s ≡ record { entity = no_entities; is_partial = is_partial }
IsStoreOr X calls (Some t) is_partial s = IsStoreSaid X calls t.text.now is_partial s

-- the store of these entities and of no others, in which nothing is unknown
pub record IsKnownStoreOf (X : world.Extensions) (calls : StoredCalls) (given : Option Source) (s : Entities)
    : Type 0 where
  pub said : IsStoreOr X calls given false s
  pub whole : (store_view s).is_partial ≡ false
  pub known : EachStored IsValue (store_view s)

-- that of the entities that are given
abbrev pub IsKnownStore : world.Extensions → StoredCalls → Asked → Entities → Type 0
IsKnownStore X calls q s = IsKnownStoreOf X calls q.entities s

-- the store that is asked over, which may be known in part
abbrev pub IsGivenStore : world.Extensions → StoredCalls → Asked → Entities → Type 0
IsGivenStore X calls q s = IsStoreOr X calls q.entities q.is_partial s
