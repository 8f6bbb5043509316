-- Entities that a request brings beside those that are stored.
use Rattle.std.specs.Prelude.{◌≡◌, ◌↔◌, ⊤, true, false, string_bytes, List, [], ◌∷◌, Option, None, Some, IsSomeAnd, codes}
use Rattle.json.specs.Json.{Json, document}
use Rattle.json.specs.Find.{get}
use Rattle.cedar_model.specs.Terms.{Text, EntityName}
use Rattle.cedar_model.specs.World as world
use Rattle.cedar_model.specs.Rules.{StoredCalls}
use Rattle.cedar_model.specs.Settings.{is_among}
use Rattle.cedar_layers.specs.declared.policies.entities.Entities.{Entities}
use Rattle.cedar_layers.specs.declared.policies.entities.Entity.{Entity}
use Rattle.cedar_layers.specs.Stores.{store_view, stored_entity, last_of_each_name}
use Rattle.cedar_hierarchy.specs.Ancestry.{recorded, parents_of}
use Rattle.cedar_hierarchy.specs.Paths.{Leads}
use Rattle.cedar_hierarchy.specs.Sorting.{named_of}
use Rattle.cedar_endpoints.specs.declared.bounds.Bounds.{Bounds}
use Rattle.cedar_endpoints.specs.declared.bounds.Excess.{Excess}
use Rattle.cedar_endpoints.specs.declared.bounds.Excess.TheVariants as excess
use Rattle.cedar_endpoints.specs.Bounds.{brings, excess_of}
use Rattle.cedar_overlay.specs.declared.entities_error.EntitiesError.{EntitiesError}
use Rattle.cedar_overlay.specs.declared.entities_error.EntitiesError.TheVariants as refusals
use Rattle.cedar_overlay.specs.Added.{IsAddedTo, HasAncestor, AreAddable, RecordsAll, IsRefusedOf}
use Rattle.cedar_json_reader.specs.declared.errors.JsonError.{JsonError}
use Rattle.cedar_json_reader.specs.Evaluated.{AreEntitiesOf}
use Rattle.cedar_json_reader.specs.NothingUnknown.{AreKnownEntities, IsKnownEntitiesError}
use Rattle.cedar_json_reader.specs.JsonTexts.{SaysSo, IsUnread, IsTextError}
use Rattle.cedar_json_reader.specs.SaidEntities.{entities_said}
use Rattle.cedar_service.specs.Documents.{IsTextFor}
use Rattle.cedar_service.specs.declared.brought.Unbrought.{Unbrought}
use Rattle.cedar_service.specs.declared.brought.Unbrought.TheVariants as unbroughts
use Rattle.cedar_service.specs.declared.ways.RequestEntities.{RequestEntities}
use Rattle.cedar_service.specs.declared.ways.RequestEntities.TheVariants as claims
use Rattle.cedar_service.specs.Faults.{IsFault, IsFaultBelow, IsOfJson, IsToldAs}
use Rattle.cedar_service.specs.Levels.{levels}
use Rattle.cedar_service.specs.Ways.{Ways}

-- what was laid over the store, if something was; else the store, as it stands
abbrev pub laid_or : Entities → Option Entities → Entities
laid_or s None = s
laid_or s (Some made) = made

-- ---- the store of both

-- the second store has these entities, each with all its ancestors, beside those of the first, which they may be added to
pub record HasAdded (s : Entities) (es : List Entity) (made : Entities) : Type 0 where
  pub addable : AreAddable (stored_entity s) es
  pub acyclic : (n : EntityName) → ¬ Leads (parents_of es) n n
  pub entities : (n : EntityName) → IsAddedTo (stored_entity s n) (last_of_each_name es n) (stored_entity made n)
  pub ancestors : (n m : EntityName) → named_of es n ≡ true →
      (is_among m (recorded (stored_entity made n)) ≡ true) ↔ HasAncestor (parents_of es) (stored_entity s) n m
  pub closed : RecordsAll (stored_entity s) → RecordsAll (stored_entity made)
  pub partial : (store_view made).is_partial ≡ (store_view s).is_partial

-- without entities it is the store that stands
abbrev pub IsOver : Entities → List Entity → Entities → Type 0
IsOver s [] made = made ≡ s
IsOver s (e ∷ es) made = HasAdded s (e ∷ es) made

-- ---- what is brought

-- the entities that the JSON says, in which nothing is unknown; none, where there is none
abbrev pub AreBrought : world.Extensions → StoredCalls → Option Json → List Entity → Type 0
AreBrought X calls None es = es ≡ []
AreBrought X calls (Some j) es = AreEntitiesOf X calls levels (entities_said j) es × AreKnownEntities es

-- the store with them
abbrev pub IsBroughtOver : world.Extensions → StoredCalls → Entities → Option Json → Entities → Type 0
IsBroughtOver X calls s o made = (es : List Entity) × AreBrought X calls o es × IsOver s es made

-- Where a request may bring none, it brings none, and it is the store alone; where it may bring some, there are not too
-- many, and it is the store with them.
abbrev pub IsBroughtFor : RequestEntities → Bounds → world.Extensions → StoredCalls → Entities → Option Json → Entities
    → Type 0
IsBroughtFor claims.None b X calls s o made = (brings o ≡ false) × (made ≡ s)
IsBroughtFor claims.Allowed b X calls s o made = (excess_of b o ≡ None) × IsBroughtOver X calls s o made

-- so it is of the request that the text is
abbrev pub IsBroughtBy : world.Extensions → StoredCalls → Ways → Entities → Text → Entities → Type 0
IsBroughtBy X calls w s text made =
    SaysSo text (λ j. IsBroughtFor w.entities w.bounds X calls s (get (codes "entities") j) made)

-- ---- why none is

-- the error is not that memory ran out
abbrev pub IsOfEntities : EntitiesError → Type 0
IsOfEntities (refusals.Memory e) = ⊥
IsOfEntities (refusals.AlreadyStored u) = ⊤
IsOfEntities (refusals.Repeated u) = ⊤
IsOfEntities (refusals.NoParent u v) = ⊤
IsOfEntities (refusals.IsAnAncestor u v) = ⊤
IsOfEntities (refusals.Cycle u) = ⊤

-- these may not be added, and that is told
pub record IsNotOver (s : Entities) (es : List Entity) (t : Text) : Type 0 where
  pub error : EntitiesError
  pub of_entities : IsOfEntities error
  pub refused : IsRefusedOf (stored_entity s) es error
  pub told : IsFaultBelow (codes "$.entities") t

-- the text says no entities, or some in which an unknown stands, as the reader's error tells
pub record AreUnread (X : world.Extensions) (calls : StoredCalls) (text : Text) (t : Text) : Type 0 where
  pub error : JsonError
  pub of_json : IsOfJson error
  pub refused : IsTextError text (λ j e. IsKnownEntitiesError X calls levels (entities_said j) e) error
  pub told : IsFaultBelow (codes "$.entities") t

-- it says none, or such as may not be added
pub data IsUnbroughtAs (X : world.Extensions) (calls : StoredCalls) (s : Entities) (text : Text) (t : Text) : Type 0 where
  none_said : AreUnread X calls text t → IsUnbroughtAs X calls s text t
  none_added : (es : List Entity) → SaysSo text (λ j. AreEntitiesOf X calls levels (entities_said j) es)
      → IsNotOver s es t → IsUnbroughtAs X calls s text t

-- so it is of a text that is this JSON
abbrev pub IsUnbrought : world.Extensions → StoredCalls → Entities → Option Json → Text → Type 0
IsUnbrought X calls s None t = ⊥
IsUnbrought X calls s (Some j) t = (text : Text) × IsTextFor j text × IsUnbroughtAs X calls s text t

-- some are brought, and a request may bring none
abbrev pub IsNotTaken : Option Json → Text → Type 0
IsNotTaken o t = (brings o ≡ true) × IsFault (codes "$.entities") (codes "not taken (--request-entities)") t

-- Where a request may bring none, it brings some; where it may bring some, there are not too many, and they are refused.
abbrev pub IsUnbroughtFor : RequestEntities → Bounds → world.Extensions → StoredCalls → Entities → Option Json → Text
    → Type 0
IsUnbroughtFor claims.None b X calls s o t = IsNotTaken o t
IsUnbroughtFor claims.Allowed b X calls s o t = (excess_of b o ≡ None) × IsUnbrought X calls s o t

-- the text is no JSON, or brings no entities
pub data IsUnbroughtBy (X : world.Extensions) (calls : StoredCalls) (w : Ways) (s : Entities) (text : Text) (t : Text)
    : Type 0 where
  no_document : (e : JsonError) → IsUnread text e → IsOfJson e → IsFaultBelow (codes "$") t
      → IsUnbroughtBy X calls w s text t
  of_document : IsSomeAnd (document text)
      (λ j. IsUnbroughtFor w.entities w.bounds X calls s (get (codes "entities") j) t)
      → IsUnbroughtBy X calls w s text t

-- ---- too much

-- what there is too much of, as it is told
abbrev pub excess_reason : Excess → Text
excess_reason excess.Entities = codes "too many (--max-request-entities)"
excess_reason excess.Parents = codes "too many parents (--max-request-ancestors)"

abbrev pub IsTooMuch : Excess → Text → Type 0
IsTooMuch x t = IsFault (codes "$.entities") (excess_reason x) t

-- more is brought than may be, where a request may bring some
abbrev pub IsExcess : RequestEntities → Bounds → Option Json → Text → Type 0
IsExcess claims.None b o t = ⊥
IsExcess claims.Allowed b o t = (x : Excess) × (excess_of b o ≡ Some x) × IsTooMuch x t

-- so it is of the request that the text is
abbrev pub IsExcessBy : Ways → Text → Text → Type 0
IsExcessBy w text t = IsSomeAnd (document text) (λ j. IsExcess w.entities w.bounds (get (codes "entities") j) t)

-- ---- for private clauses

-- the store with the entities of a text
abbrev pub IsBroughtAs : world.Extensions → StoredCalls → Entities → Text → Entities → Type 0
IsBroughtAs X calls s text made =
    (es : List Entity)
    × SaysSo text (λ j. AreEntitiesOf X calls levels (entities_said j) es × AreKnownEntities es) × IsOver s es made

-- none is brought, and nothing is laid over the store
abbrev pub IsNoneBrought : Option Json → Option Entities → Type 0
IsNoneBrought o laid = (brings o ≡ false) × (laid ≡ None)

-- none is brought, as the one is so of what is told; or there is too much, as the other is
abbrev pub IsUnbroughtSo : (Text → Type 0) → (Text → Type 0) → Unbrought → Type 0
IsUnbroughtSo Un Over (unbroughts.Refused r) = IsToldAs Un r
IsUnbroughtSo Un Over (unbroughts.TooLarge t) = Over (string_bytes t)
