-- What helpers answer while entities are added to a store.
use Rattle.std.specs.Prelude.{◌≡◌, ◌≢◌, ◌≤◌, ◌↔◌, ⊤, true, false, List, [], ◌∷◌, ◌++◌, map, Option, None, Some}
use Rattle.std.specs.Option.{is_some}
use Rattle.cedar_model.specs.Terms.{EntityName}
use Rattle.cedar_model.specs.Settings.{is_among}
use Rattle.cedar_names.specs.declared.names.EntityUID.{EntityUID}
use Rattle.cedar_names.specs.Names.{uid_name}
use Rattle.cedar_layers.specs.declared.policies.entities.Entity.{Entity}
use Rattle.cedar_layers.specs.Stores.{Standing, entity_name, entity_ancestors}
use Rattle.cedar_hierarchy.specs.Paths.{Parentage, Leads}
use Rattle.cedar_hierarchy.specs.Ancestry.{recorded, KeepsParts}
use Rattle.cedar_hierarchy.specs.Sorting.{NameTest, named_in, named_of, with_name}
use Rattle.cedar_overlay.specs.declared.entities_error.EntitiesError.{EntitiesError}
use Rattle.cedar_overlay.specs.declared.entities_error.EntitiesError.TheVariants.{Memory, AlreadyStored, Repeated, NoParent, IsAnAncestor, Cycle}
use Rattle.cedar_hierarchy.specs.declared.error.ClosureError.{ClosureError}
use Rattle.cedar_hierarchy.specs.declared.error.ClosureError.TheVariants as closures
use Rattle.cedar_overlay.specs.Added.{times, is_there, HasAncestor}

-- ---- one entity that is brought

-- an entity of this name may be brought: none is stored, and none of those before it has the name
pub record IsNew (stored : Standing) (before : NameTest) (n : EntityName) : Type 0 where
  pub not_stored : stored n ≡ None
  pub first : before n ≡ false

abbrev pub IsNotNew : Standing → NameTest → EntityName → EntitiesError → Type 0
IsNotNew stored before n (Memory e) = ⊤
IsNotNew stored before n (AlreadyStored u) = (uid_name u ≡ n) × (is_some (stored n) ≡ true)
IsNotNew stored before n (Repeated u) = (uid_name u ≡ n) × (before n ≡ true)
IsNotNew stored before n (NoParent u v) = ⊥
IsNotNew stored before n (IsAnAncestor u v) = ⊥
IsNotNew stored before n (Cycle u) = ⊥

-- the names may be brought together: none is stored, and none stands twice
pub record AreNew (stored : Standing) (es : List Entity) : Type 0 where
  pub not_stored : (n : EntityName) → named_of es n ≡ true → stored n ≡ None
  pub once : (n : EntityName) → times n (map entity_name es) ≤ 1

-- where it has parents, no stored entity records it, if it is not stored
abbrev pub IsApart : Standing → Entity → Type 0
IsApart stored e =
    (k : EntityName) → stored (entity_name e) ≡ None → entity_ancestors e ≢ []
    → is_among (entity_name e) (recorded (stored k)) ≡ false

abbrev pub IsRecorded : Standing → Entity → EntitiesError → Type 0
IsRecorded stored e (Memory x) = ⊤
IsRecorded stored e (AlreadyStored u) = ⊥
IsRecorded stored e (Repeated u) = ⊥
IsRecorded stored e (NoParent u v) = ⊥
IsRecorded stored e (IsAnAncestor u v) =
    (uid_name u ≡ entity_name e) × (entity_ancestors e ≢ [])
    × (is_among (entity_name e) (recorded (stored (uid_name v))) ≡ true)
IsRecorded stored e (Cycle u) = ⊥

-- each parent is there, and no stored entity records it where it has parents
pub record HasItsPlace (stored : Standing) (brought : NameTest) (e : Entity) : Type 0 where
  pub parents : (m : EntityName) → is_among m (map uid_name (entity_ancestors e)) ≡ true
      → is_there stored brought m ≡ true
  pub apart : IsApart stored e

abbrev pub HasNoPlace : Standing → NameTest → Entity → EntitiesError → Type 0
HasNoPlace stored brought e (Memory x) = ⊤
HasNoPlace stored brought e (AlreadyStored u) = ⊥
HasNoPlace stored brought e (Repeated u) = ⊥
HasNoPlace stored brought e (NoParent u v) =
    (uid_name u ≡ entity_name e) × (is_among (uid_name v) (map uid_name (entity_ancestors e)) ≡ true)
    × (is_there stored brought (uid_name v) ≡ false)
HasNoPlace stored brought e (IsAnAncestor u v) =
    (uid_name u ≡ entity_name e) × (entity_ancestors e ≢ [])
    × (is_among (entity_name e) (recorded (stored (uid_name v))) ≡ true)
HasNoPlace stored brought e (Cycle u) = ⊥

-- one of these has none
pub record OneHasNoPlace (stored : Standing) (brought : NameTest) (es : List Entity) (x : EntitiesError) : Type 0 where
  pub before : List Entity
  pub one : Entity
  pub behind : List Entity
  pub all_are : es ≡ before ++ one ∷ behind
  pub placeless : HasNoPlace stored brought one x

-- the first of these names that isn't there, if there is one
abbrev pub IsNotThere : Standing → NameTest → List EntityName → Option EntityUID → Type 0
IsNotThere stored brought ns None = (m : EntityName) → is_among m ns ≡ true → is_there stored brought m ≡ true
IsNotThere stored brought ns (Some u) =
    (is_among (uid_name u) ns ≡ true) × (is_there stored brought (uid_name u) ≡ false)

-- an error that names a cycle
abbrev pub SaysCycle : Parentage → EntitiesError → Type 0
SaysCycle parents (Memory x) = ⊤
SaysCycle parents (AlreadyStored u) = ⊥
SaysCycle parents (Repeated u) = ⊥
SaysCycle parents (NoParent u v) = ⊥
SaysCycle parents (IsAnAncestor u v) = ⊥
SaysCycle parents (Cycle u) = Leads parents (uid_name u) (uid_name u)

-- the same error
abbrev pub SaysAsMuch : ClosureError → EntitiesError → Type 0
SaysAsMuch (closures.Memory x) y = y ≡ Memory x
SaysAsMuch (closures.Cycle u) y = y ≡ Cycle u

-- ---- ancestors

-- those names, and these
abbrev pub with_names : NameTest → List EntityName → NameTest
with_names before [] = before
with_names before (n ∷ ns) = with_names (with_name before n) ns

-- those names, and what the stored ones of these record
abbrev pub with_recorded : NameTest → Standing → List EntityName → NameTest
with_recorded before stored [] = before
with_recorded before stored (n ∷ ns) = with_recorded (with_names before (recorded (stored n))) stored ns

-- the second is the first, with what the stored ones of its ancestors record
pub record IsWidened (stored : Standing) (e f : Entity) : Type 0 where
  pub parts : KeepsParts e f
  pub ancestors : named_in (entity_ancestors f)
      ≡ with_recorded (named_in (entity_ancestors e)) stored (map uid_name (entity_ancestors e))

-- the second is the first with all its ancestors, and no parents lead back to it
pub record IsPlaced (parents : Parentage) (stored : Standing) (e f : Entity) : Type 0 where
  pub parts : KeepsParts e f
  pub ancestors : (m : EntityName) → (is_among m (map uid_name (entity_ancestors f)) ≡ true)
      ↔ HasAncestor parents stored (entity_name e) m
  pub acyclic : ¬ Leads parents (entity_name e) (entity_name e)

-- a stored entity that records this name, which is not stored; where there is none, no entity records it
abbrev pub IsRecorderOf : Standing → EntityName → Option EntityUID → Type 0
IsRecorderOf stored n None = (k : EntityName) → stored n ≡ None → is_among n (recorded (stored k)) ≡ false
IsRecorderOf stored n (Some u) = is_among n (recorded (stored (uid_name u))) ≡ true
