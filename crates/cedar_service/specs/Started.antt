-- What an engine is made of, and why none is.
use Rattle.std.specs.Prelude.{◌≡◌, ◌↔◌, ⊤, Bool, true, false, List, ◌∷◌}
use Rattle.cedar_model.specs.Terms.{Text, EntityName}
use Rattle.cedar_model.specs.Values.{AbstractValue}
use Rattle.cedar_model.specs.World as world
use Rattle.cedar_model.specs.Rules.{StoredCalls}
use Rattle.cedar_model.specs.Policies as model
use Rattle.cedar_model.specs.Settings.{is_among}
use Rattle.cedar_model.specs.Agreement.{HasNothingUnknown, IsValue, EachStored, own_world}
use Rattle.cedar_model.specs.Authorizations.{Authorized, IsExactResponse}
use Rattle.cedar_functions.specs.Functions.{Knowledge}
use Rattle.cedar_layers.specs.declared.policies.entities.Entities.{Entities}
use Rattle.cedar_layers.specs.declared.policies.entities.Entity.{Entity}
use Rattle.cedar_layers.specs.declared.policies.policy_set.PolicySet.{PolicySet}
use Rattle.cedar_layers.specs.Stores.{store_view, stored_entity, last_of_each_name}
use Rattle.cedar_hierarchy.specs.Ancestry.{recorded, parents_of, AreAlike}
use Rattle.cedar_hierarchy.specs.Paths.{Parentage, Leads}
use Rattle.cedar_hierarchy.specs.declared.error.ClosureError.{ClosureError}
use Rattle.cedar_hierarchy.specs.declared.error.ClosureError.TheVariants as closing
use Rattle.cedar_names.specs.Names.{uid_name}
use Rattle.cedar_requests.specs.Requests.{request_view}
use Rattle.cedar_requests.specs.declared.request.Request.{Request}
use Rattle.cedar_standard_functions.specs.Standard.{standard_answers}
use Rattle.cedar_text_lexer.specs.declared.errors.ReadError.{ReadError}
use Rattle.cedar_text_lexer.specs.declared.errors.ReadError.TheVariants as reading
use Rattle.cedar_text_parser.specs.declared.errors.ParseError.{ParseError}
use Rattle.cedar_text_parser.specs.declared.errors.ParseError.TheVariants as parsing
use Rattle.cedar_text_parser.specs.PolicyHeights.{with_scope, AreAllNoHigher}
use Rattle.cedar_text_parser.specs.PolicyReading.{AreAllRead, AreTold}
use Rattle.cedar_authorizer.specs.Responding.{considered}
use Rattle.cedar_json_reader.specs.declared.errors.JsonError.{JsonError}
use Rattle.cedar_json_reader.specs.JsonTexts.{SaysSo, IsTextError}
use Rattle.cedar_json_reader.specs.SaidEntities.{entities_said}
use Rattle.cedar_json_reader.specs.Evaluated.{AreEntitiesOf}
use Rattle.cedar_json_reader.specs.NothingUnknown.{IsKnownEntitiesError}
use Rattle.cedar_service.specs.declared.engine.Engine.{Engine}
use Rattle.cedar_service.specs.declared.engine.NotStarted.{NotStarted}
use Rattle.cedar_service.specs.declared.engine.NotStarted.TheVariants as failures
use Rattle.cedar_service.specs.Standard.{standard_extensions, standard_calls, standard_knowledge}
use Rattle.cedar_service.specs.Asked.{levels, IsAsked, IsSaid, has_known_context}
use Rattle.cedar_service.specs.Brought.{IsBroughtBy}
use Rattle.cedar_service.specs.Properties.{IsAskedOver}
use Rattle.cedar_service.specs.Searched.{opened, question_of}
use Rattle.cedar_service.specs.Ways.{Ways}
use Rattle.cedar_service.specs.declared.ways.RequestEntities.TheVariants as allowances
use Rattle.cedar_service.specs.declared.ways.RequestProperties.TheVariants as claims
use Rattle.cedar_endpoints.specs.Asked.{Evaluation}
use Rattle.cedar_search.specs.declared.searches.Part.{Part}
use Rattle.cedar_search.specs.Found.{HasNothingElseUnknown}
use Rattle.cedar_service.specs.Faults.{IsOfJson}
use Rattle.cedar_service.specs.Candidates.{AreCandidates}
use Rattle.cedar_service.specs.Versions.{version_text}
use Rattle.cedar_service.specs.Engines.{read_policies, policies_of, entities_of, candidates_of, version_of}
use Rattle.cedar_service.specs.Decided.{setting_of, IsResponseTo}

-- the store of these entities, each with all entities that its parents lead to, where none leads to itself
pub record IsClosedStore (es : List Entity) (s : Entities) : Type 0 where
  pub entities : (n : EntityName) → AreAlike (last_of_each_name es n) (stored_entity s n)
  pub ancestors : (n m : EntityName) →
      (is_among m (recorded (stored_entity s n)) ≡ true) ↔ Leads (parents_of es) n m
  pub whole : (store_view s).is_partial ≡ false
  pub acyclic : (n : EntityName) → ¬ Leads (parents_of es) n n

-- the closed store of the entities that the JSON says, in which nothing is unknown
pub record IsStoreSaid (X : world.Extensions) (calls : StoredCalls) (text : Text) (s : Entities) : Type 0 where
  pub entities : List Entity
  pub said : SaysSo text (λ j. AreEntitiesOf X calls levels (entities_said j) entities)
  pub closed : IsClosedStore entities s
  pub known : EachStored IsValue (store_view s)

-- with these extensions, of which so much is known where policies are read
pub record IsEngineWith (k : Knowledge) (X : world.Extensions) (calls : StoredCalls) (policies entities : Text)
    (e : Engine) : Type 0 where
  -- the policies are those that the text's tokens derive, and none is higher than a text may be
  pub policies_are : AreAllRead k policies levels (read_policies e)
  pub low : AreAllNoHigher (with_scope levels) (read_policies e)
  -- the entities, each with all its ancestors, are those that the text says
  pub store_is : IsStoreSaid X calls entities (entities_of e)
  -- a search goes over all of them and the actions that scopes name, and its pages are of the version of these texts
  pub candidates_are : AreCandidates (policies_of e) (entities_of e) (candidates_of e)
  pub version_is : version_of e ≡ version_text policies entities

-- decision, reasons and errors are exactly those that the policies have by what they mean
abbrev pub IsExact : PolicySet → Entities → Request → Authorized → Type 0
IsExact ps s r a =
    (sigma : Text → AbstractValue)
    → IsExactResponse model.skip standard_extensions standard_answers
    (own_world (setting_of standard_extensions r s) sigma) (considered ps) a

-- a store over which the engine decides: its own, with the properties of an evaluation or the entities of a text
pub data IsStoreFor (e : Engine) (s : Entities) : Type 0 where
  with_properties : (w : Ways) (q : Evaluation)
      → IsAskedOver standard_extensions standard_calls w (entities_of e) q s → IsStoreFor e s
  with_entities : (w : Ways) (text : Text)
      → IsBroughtBy standard_extensions standard_calls w (entities_of e) text s → IsStoreFor e s

-- a request that it decides: that of an evaluation, or the one that a text says
pub data IsRequestFor (r : Request) : Type 0 where
  of_evaluation : (ty : Text) (q : Evaluation) → IsAsked standard_extensions standard_calls ty q r → IsRequestFor r
  of_text : (text : Text) → IsSaid standard_extensions standard_calls text r → IsRequestFor r

-- a response, in which nothing is unknown, and which is exact
pub record IsExactOver (e : Engine) (s : Entities) (r : Request) (a : Authorized) : Type 0 where
  pub nothing_unknown : HasNothingUnknown (setting_of standard_extensions r s)
  pub exact : IsExact (policies_of e) s r a

-- so is each response to a request that is answered: one whose context is known
abbrev pub AnswersExactly : Engine → Type 0
AnswersExactly e =
    (s : Entities) (r : Request) (a : Authorized) → IsStoreFor e s → IsRequestFor r → has_known_context r ≡ true
    → IsResponseTo standard_extensions standard_calls (policies_of e) s r a
    → IsExactOver e s r a

-- and where a part of such a request is searched for, nothing but that part is unknown
abbrev pub SearchesTheKnown : Engine → Type 0
SearchesTheKnown e =
    (s : Entities) (r : Request) (part : Part) → IsStoreFor e s → IsRequestFor r → has_known_context r ≡ true
    → HasNothingElseUnknown
    (question_of standard_extensions standard_calls e s part (opened part (request_view r)))

-- where properties are taken of no entity, an evaluation is decided over the engine's own store
abbrev pub LeavesUntouched : Engine → Type 0
LeavesUntouched e =
    (w : Ways) (q : Evaluation) (s : Entities) → w.properties ≡ claims.None
    → IsAskedOver standard_extensions standard_calls w (entities_of e) q s → s ≡ entities_of e

-- where a request may bring no entities, it is decided over the engine's own store
abbrev pub StandsAlone : Engine → Type 0
StandsAlone e =
    (w : Ways) (text : Text) (s : Entities) → w.entities ≡ allowances.None
    → IsBroughtBy standard_extensions standard_calls w (entities_of e) text s → s ≡ entities_of e

-- the engine of two texts, with the standard extensions: it has what they say, and each response of it is exact
pub record IsEngineOf (policies entities : Text) (e : Engine) : Type 0 where
  pub has : IsEngineWith standard_knowledge standard_extensions standard_calls policies entities e
  pub exact : AnswersExactly e
  pub searches : SearchesTheKnown e
  pub untouched : LeavesUntouched e
  pub alone : StandsAlone e

-- ---- why none is made

-- the parents of the entity that is named lead back to it
abbrev pub NamesOne : Parentage → ClosureError → Type 0
NamesOne parents (closing.Memory e) = ⊥
NamesOne parents (closing.Cycle u) = Leads parents (uid_name u) (uid_name u)

-- the parents of the entities that the text says lead back to one of them
pub record IsCyclic (X : world.Extensions) (calls : StoredCalls) (text : Text) (error : ClosureError) : Type 0 where
  pub entities : List Entity
  pub said : SaysSo text (λ j. AreEntitiesOf X calls levels (entities_said j) entities)
  pub cycle : NamesOne (parents_of entities) error

-- the entities are refused, for the reader's own reason
abbrev pub IsStoreFailure : world.Extensions → StoredCalls → Text → NotStarted → Type 0
IsStoreFailure X calls text (failures.Policies errors) = ⊥
IsStoreFailure X calls text (failures.Entities error) =
    IsOfJson error × IsTextError text (λ j e. IsKnownEntitiesError X calls levels (entities_said j) e) error
IsStoreFailure X calls text (failures.Parents error) = IsCyclic X calls text error
IsStoreFailure X calls text failures.Memory = ⊤

-- the parents of these entities lead back to one of them
abbrev pub IsCyclicAmong : List Entity → NotStarted → Type 0
IsCyclicAmong es (failures.Policies errors) = ⊥
IsCyclicAmong es (failures.Entities error) = ⊥
IsCyclicAmong es (failures.Parents error) = NamesOne (parents_of es) error
IsCyclicAmong es failures.Memory = ⊤

-- the entities are refused for this error
abbrev pub IsUnreadAs : JsonError → NotStarted → Type 0
IsUnreadAs e (failures.Policies errors) = ⊥
IsUnreadAs e (failures.Entities error) = (error ≡ e) × IsOfJson error
IsUnreadAs e (failures.Parents error) = ⊥
IsUnreadAs e failures.Memory = ⊤

-- the error names an entity
abbrev pub IsOfParents : ClosureError → Type 0
IsOfParents (closing.Memory e) = ⊥
IsOfParents (closing.Cycle u) = ⊤

-- the parents are refused for this error
abbrev pub IsUnclosedAs : ClosureError → NotStarted → Type 0
IsUnclosedAs e (failures.Policies errors) = ⊥
IsUnclosedAs e (failures.Entities error) = ⊥
IsUnclosedAs e (failures.Parents error) = (error ≡ e) × IsOfParents error
IsUnclosedAs e failures.Memory = ⊤

-- whether the error is that memory ran out
abbrev pub is_read_memory : ReadError → Bool
is_read_memory reading.Memory = true
is_read_memory (reading.Expected w k s e) = false
is_read_memory (reading.TooDeep n s e) = false

abbrev pub is_memory : ParseError → Bool
is_memory (parsing.Read e) = is_read_memory e
is_memory (parsing.UnknownFunction n c o s e) = false
is_memory (parsing.WrongStyle n c s e) = false
is_memory (parsing.WrongNumberOfArguments n m k s e) = false

-- the policies are refused, for the reader's own reasons
abbrev pub IsPoliciesFailure : Knowledge → Text → NotStarted → Type 0
IsPoliciesFailure k text (failures.Policies errors) =
    (is_memory errors.first ≡ false) × AreTold k text levels (errors.first ∷ errors.rest.items)
IsPoliciesFailure k text (failures.Entities error) = ⊥
IsPoliciesFailure k text (failures.Parents error) = ⊥
IsPoliciesFailure k text failures.Memory = ⊤

-- the text that is named is refused, for its reader's own reasons
abbrev pub IsFailure : Knowledge → world.Extensions → StoredCalls → Text → Text → NotStarted → Type 0
IsFailure k X calls policies entities (failures.Policies errors) =
    IsPoliciesFailure k policies (failures.Policies errors)
IsFailure k X calls policies entities (failures.Entities error) =
    IsStoreFailure X calls entities (failures.Entities error)
IsFailure k X calls policies entities (failures.Parents error) = IsStoreFailure X calls entities (failures.Parents error)
IsFailure k X calls policies entities failures.Memory = ⊤

abbrev pub IsNotStarted : Text → Text → NotStarted → Type 0
IsNotStarted = IsFailure standard_knowledge standard_extensions standard_calls
