-- Properties that an evaluation brings, as attributes beside those that are stored.
use Rattle.std.specs.Prelude.{◌≡◌, ⊤, Bool, true, false, [], ◌∷◌, Option, None, Some, Ok, codes}
use Rattle.std.specs.Option.{is_some}
use Rattle.std.specs.BTreeMap.{BTreeMap}
use Rattle.std.specs.declared.alloc.Global.{Global}
use Rattle.std.specs.declared.rc.RcStr.{RcStr}
use Rattle.json.specs.Json.{Json, object, no_members}
use Rattle.cedar_model.specs.Terms.{Text, EntityName}
use Rattle.cedar_model.specs.World as world
use Rattle.cedar_model.specs.Rules.{StoredCalls}
use Rattle.cedar_model.specs.Settings.{known_context}
use Rattle.cedar_names.specs.declared.names.EntityUID.{EntityUID}
use Rattle.cedar_names.specs.Names.{uid_name}
use Rattle.cedar_values.specs.Sound.{Placed, whats_at}
use Rattle.cedar_layers.specs.declared.policies.entities.Entities.{Entities}
use Rattle.cedar_layers.specs.declared.policies.entities.Entity.{Entity}
use Rattle.cedar_layers.specs.Stores.{store_view, entity_name, entity_view, facts_of_values, with_entities}
use Rattle.cedar_requests.specs.declared.context.Context.{Context}
use Rattle.cedar_requests.specs.Contexts.{context_view}
use Rattle.cedar_json_reader.specs.SaidContexts.{context_said, IsContextOf}
use Rattle.cedar_overlay.specs.declared.error.AttributesError.{AttributesError}
use Rattle.cedar_overlay.specs.declared.error.AttributesError.TheVariants as refusals
use Rattle.cedar_overlay.specs.Overlaid.{overlaid, AreFree, IsRefused}
use Rattle.cedar_endpoints.specs.Asked.{Named, Evaluation}
use Rattle.cedar_service.specs.Levels.{levels}
use Rattle.cedar_service.specs.Faults.{IsFault, IsFaultBelow}
use Rattle.cedar_service.specs.Ways.{Ways, wins, are_taken}
use Rattle.cedar_service.specs.declared.ways.RequestProperties.{RequestProperties}
use Rattle.cedar_service.specs.Asked.{entity_said, action_named, is_known_part, IsUnnamed, IsNoContext}

-- ---- attributes

-- values under their names
abbrev pub Attributes : Type 0
Attributes = BTreeMap (RcStr Global) Placed

-- the record that the JSON says is evaluated to these values, as that of a context is, and no unknown stands in it
abbrev pub AreAttributesOf : world.Extensions → StoredCalls → Json → Attributes → Type 0
AreAttributesOf X calls j m =
    (c : Context) × IsContextOf X calls levels (context_said j) c × (context_view c ≡ known_context (whats_at m.entries))

-- an unknown stands in what is made of it, and that is told
abbrev pub IsNotKnown : Context → Text → Text → Type 0
IsNotKnown c path t =
    (is_known_part (context_view c) ≡ false) × IsFault path (codes "an unknown stands in it") t

-- the JSON says no record, or one that does not evaluate, or an unknown stands in it
pub data AreNoAttributes (X : world.Extensions) (calls : StoredCalls) (j : Json) (path t : Text) : Type 0 where
  no_record : IsNoContext X calls j → IsFaultBelow path t → AreNoAttributes X calls j path t
  not_known : (c : Context) → IsContextOf X calls levels (context_said j) c → IsNotKnown c path t
      → AreNoAttributes X calls j path t

-- ---- the store of both

-- the second store has one entity more: that of this name with these attributes, without parents and tags
pub record HasOneMore (s : Entities) (n : EntityName) (m : Attributes) (made : Entities) : Type 0 where
  pub entity : Entity
  pub name : entity_name entity ≡ n
  pub facts : entity_view entity ≡ facts_of_values m.entries [] []
  pub held : (store_view made).entity ≡ with_entities (store_view s).entity (entity ∷ [])
  pub partial : (store_view made).is_partial ≡ (store_view s).is_partial

-- the second store is the first one but for these attributes of the entity of this name: they stand beside those of the
-- stored one, which has none of their names unless the request wins, and keeps all else; one that isn't stored has them
-- alone
pub data IsLaidOver (wins : Bool) (s : Entities) (n : EntityName) (m : Attributes) (made : Entities) : Type 0 where
  beside : (u : EntityUID) → uid_name u ≡ n → AreFree (store_view s) ((u, m) ∷ []) wins
      → store_view made ≡ overlaid (store_view s) ((u, m) ∷ []) → IsLaidOver wins s n m made
  alone : (store_view s).entity n ≡ None → HasOneMore s n m made → IsLaidOver wins s n m made

-- the error is that an attribute is stored
abbrev pub IsOfAttributes : AttributesError → Type 0
IsOfAttributes (refusals.Memory e) = ⊥
IsOfAttributes (refusals.NotStored u) = ⊤
IsOfAttributes (refusals.HasAttribute u k) = ⊤

abbrev pub IsTaken : AttributesError → Type 0
IsTaken (refusals.Memory e) = ⊥
IsTaken (refusals.NotStored u) = ⊥
IsTaken (refusals.HasAttribute u k) = ⊤

-- the stored entity has one of these attributes, and the request doesn't win
pub record AreTaken (wins : Bool) (s : Entities) (n : EntityName) (m : Attributes) (path t : Text) : Type 0 where
  pub uid : EntityUID
  pub name : uid_name uid ≡ n
  pub error : AttributesError
  pub taken : IsTaken error
  pub refused : IsRefused (store_view s) ((uid, m) ∷ []) wins error
  pub told : IsFaultBelow path t

-- ---- the properties of a part

-- whether the store has the entity
abbrev pub is_stored : Entities → EntityName → Bool
is_stored s n = is_some ((store_view s).entity n)

-- the store with the attributes of the entity of this name that the JSON says, where such are taken of it
abbrev pub IsLaidAs : world.Extensions → StoredCalls → RequestProperties → Entities → EntityName → Json → Entities → Type 0
IsLaidAs X calls c s n j made =
    (m : Attributes) × AreAttributesOf X calls j m × (are_taken c (is_stored s n) ≡ true) × IsLaidOver (wins c) s n m made

-- none are taken of it; or the JSON says none, or such as are stored
pub data IsUnlaid (X : world.Extensions) (calls : StoredCalls) (c : RequestProperties) (s : Entities) (n : EntityName)
    (j : Json) (path t : Text) : Type 0 where
  none_taken : are_taken c (is_stored s n) ≡ false → IsFault path (codes "not taken (--request-properties)") t
      → IsUnlaid X calls c s n j path t
  no_attributes : AreNoAttributes X calls j path t → IsUnlaid X calls c s n j path t
  taken : (m : Attributes) → AreAttributesOf X calls j m → AreTaken (wins c) s n m path t
      → IsUnlaid X calls c s n j path t

abbrev pub IsNamedAs : Named → EntityName → Type 0
IsNamedAs q n = entity_said q ≡ Ok n

abbrev pub IsActionNamed : Text → Text → EntityName → Type 0
IsActionNamed ty a n = n ≡ action_named ty a

-- whether it is an object without a member
abbrev pub is_empty : Json → Bool
is_empty (object no_members) = true
is_empty other = false

-- the store with these properties of the entity of which this is so
abbrev pub AreLaid : world.Extensions → StoredCalls → RequestProperties → Entities → (EntityName → Type 0) → Json
    → Entities → Type 0
AreLaid X calls c s Is j made = (n : EntityName) × Is n × IsLaidAs X calls c s n j made

-- properties without a member are none
abbrev pub AreLaidUnless : Bool → world.Extensions → StoredCalls → RequestProperties → Entities → (EntityName → Type 0)
    → Json → Entities → Type 0
AreLaidUnless true X calls c s Is j made = made ≡ s
AreLaidUnless false X calls c s Is j made = AreLaid X calls c s Is j made

-- the store with the properties of the entity of which this is so; without any it is the store that stands
abbrev pub IsWithProperties : world.Extensions → StoredCalls → RequestProperties → Entities → (EntityName → Type 0)
    → Option Json → Entities → Type 0
IsWithProperties X calls c s Is None made = made ≡ s
IsWithProperties X calls c s Is (Some j) made = AreLaidUnless (is_empty j) X calls c s Is j made

abbrev pub AreWrong : world.Extensions → StoredCalls → RequestProperties → Entities → (EntityName → Type 0) → Json
    → Text → Text → Type 0
AreWrong X calls c s Is j path t = (n : EntityName) × Is n × IsUnlaid X calls c s n j path t

abbrev pub AreWrongUnless : Bool → world.Extensions → StoredCalls → RequestProperties → Entities
    → (EntityName → Type 0) → Json → Text → Text → Type 0
AreWrongUnless true X calls c s Is j path t = ⊥
AreWrongUnless false X calls c s Is j path t = AreWrong X calls c s Is j path t

abbrev pub AreWrongProperties : world.Extensions → StoredCalls → RequestProperties → Entities → (EntityName → Type 0)
    → Option Json → Text → Text → Type 0
AreWrongProperties X calls c s Is None path t = ⊥
AreWrongProperties X calls c s Is (Some j) path t = AreWrongUnless (is_empty j) X calls c s Is j path t

-- the type is no name, or the properties are wrong
pub data AreWrongOfNamed (X : world.Extensions) (calls : StoredCalls) (c : RequestProperties) (s : Entities)
    (q : Named) (type_path : Text) (o : Option Json) (path t : Text) : Type 0 where
  no_name : IsUnnamed q → IsFault type_path (codes "not a name") t
      → AreWrongOfNamed X calls c s q type_path o path t
  wrong : AreWrongProperties X calls c s (IsNamedAs q) o path t
      → AreWrongOfNamed X calls c s q type_path o path t

-- ---- the properties of an evaluation

-- the store with the properties of the action, and then those of the resource
pub record IsAskedWithAction (X : world.Extensions) (calls : StoredCalls) (w : Ways) (s : Entities) (q : Evaluation)
    (made : Entities) : Type 0 where
  pub with_action : Entities
  pub action : IsWithProperties X calls w.properties s (IsActionNamed w.action_type q.action) q.properties.action
      with_action
  pub resource : IsWithProperties X calls w.properties with_action (IsNamedAs q.resource) q.properties.resource made

-- the store with those of the subject, then of the action, then of the resource
pub record IsAskedOver (X : world.Extensions) (calls : StoredCalls) (w : Ways) (s : Entities) (q : Evaluation)
    (made : Entities) : Type 0 where
  pub with_subject : Entities
  pub subject : IsWithProperties X calls w.properties s (IsNamedAs q.subject) q.properties.subject with_subject
  pub others : IsAskedWithAction X calls w with_subject q made

-- ---- why there is none

pub data IsActionUnlaid (X : world.Extensions) (calls : StoredCalls) (w : Ways) (s : Entities) (q : Evaluation)
    (t : Text) : Type 0 where
  of_action : AreWrongProperties X calls w.properties s (IsActionNamed w.action_type q.action) q.properties.action
      (codes "$.action.properties") t → IsActionUnlaid X calls w s q t
  of_resource : (with_action : Entities)
      → IsWithProperties X calls w.properties s (IsActionNamed w.action_type q.action) q.properties.action with_action
      → AreWrongOfNamed X calls w.properties with_action q.resource (codes "$.resource.type") q.properties.resource
      (codes "$.resource.properties") t → IsActionUnlaid X calls w s q t

-- the properties of the subject are wrong; or, over the store with them, those of the action or of the resource
pub data AreUnlaid (X : world.Extensions) (calls : StoredCalls) (w : Ways) (s : Entities) (q : Evaluation) (t : Text)
    : Type 0 where
  of_subject : AreWrongOfNamed X calls w.properties s q.subject (codes "$.subject.type") q.properties.subject
      (codes "$.subject.properties") t → AreUnlaid X calls w s q t
  of_others : (with_subject : Entities)
      → IsWithProperties X calls w.properties s (IsNamedAs q.subject) q.properties.subject with_subject
      → IsActionUnlaid X calls w with_subject q t → AreUnlaid X calls w s q t
