-- What a store has with whole entities that a request brings, and which it may bring.
use Rattle.std.specs.Prelude.{◌≡◌, ◌≢◌, ◌≤◌, ◌+◌, ⊤, ℕ, Bool, true, false, ◌||◌, if◌then◌else◌, List, [], ◌∷◌, map, Option, None, Some}
use Rattle.std.specs.Option.{is_some}
use Rattle.cedar_model.specs.Terms.{EntityName}
use Rattle.cedar_model.specs.Outcomes.{entity_eq}
use Rattle.cedar_model.specs.Settings.{is_among}
use Rattle.cedar_names.specs.Names.{uid_name}
use Rattle.cedar_layers.specs.declared.policies.entities.Entity.{Entity}
use Rattle.cedar_layers.specs.Stores.{Standing, entity_name}
use Rattle.cedar_hierarchy.specs.Paths.{Parentage, Leads}
use Rattle.cedar_hierarchy.specs.Ancestry.{recorded, parents_of, AreAlike}
use Rattle.cedar_hierarchy.specs.Sorting.{NameTest, named_of}
use Rattle.cedar_overlay.specs.declared.entities_error.EntitiesError.{EntitiesError}
use Rattle.cedar_overlay.specs.declared.entities_error.EntitiesError.TheVariants.{Memory, AlreadyStored, Repeated, NoParent, IsAnAncestor, Cycle}

-- what was stored under a name, what is brought, and what stands there once it is added: what is brought but for its
-- ancestors, and where nothing is, what was stored
abbrev pub IsAddedTo : Option Entity → Option Entity → Option Entity → Type 0
IsAddedTo stored None made = made ≡ stored
IsAddedTo stored (Some e) made = AreAlike (Some e) made

-- an ancestor of an entity that is brought: parents lead to it, or to a stored entity that records it
pub data HasAncestor (parents : Parentage) (stored : Standing) (n m : EntityName) : Type 0 where
  by_parents : Leads parents n m → HasAncestor parents stored n m
  by_a_stored_one : (k : EntityName) → Leads parents n k → is_among m (recorded (stored k)) ≡ true
      → HasAncestor parents stored n m

-- each ancestor of a recorded ancestor is recorded
abbrev pub RecordsAll : Standing → Type 0
RecordsAll stored =
    (n k m : EntityName) → is_among k (recorded (stored n)) ≡ true → is_among m (recorded (stored k)) ≡ true
    → is_among m (recorded (stored n)) ≡ true

-- how often the name stands among these
abbrev pub times : EntityName → List EntityName → ℕ
times n [] = 0
times n (m ∷ ns) = (if entity_eq n m then 1 else 0) + times n ns

-- there is an entity of this name: a stored one, or one of those that pass the test
abbrev pub is_there : Standing → NameTest → EntityName → Bool
is_there stored brought n = is_some (stored n) || brought n

-- entities that may be brought: none is stored, each is brought once, each parent is stored or brought, and no stored
-- entity records one of those that have parents (it would get more ancestors)
pub record AreAddable (stored : Standing) (es : List Entity) : Type 0 where
  pub not_stored : (n : EntityName) → named_of es n ≡ true → stored n ≡ None
  pub once : (n : EntityName) → times n (map entity_name es) ≤ 1
  pub parents : (n m : EntityName) → is_among m (parents_of es n) ≡ true → is_there stored (named_of es) m ≡ true
  pub apart : (n k : EntityName) → parents_of es n ≢ [] → is_among n (recorded (stored k)) ≡ false

-- why these entities were not added: what is named is so
abbrev pub IsRefusedOf : Standing → List Entity → EntitiesError → Type 0
IsRefusedOf stored es (Memory e) = ⊤
IsRefusedOf stored es (AlreadyStored u) = (named_of es (uid_name u) ≡ true) × (is_some (stored (uid_name u)) ≡ true)
IsRefusedOf stored es (Repeated u) = 2 ≤ times (uid_name u) (map entity_name es)
IsRefusedOf stored es (NoParent u v) =
    (is_among (uid_name v) (parents_of es (uid_name u)) ≡ true) × (is_there stored (named_of es) (uid_name v) ≡ false)
IsRefusedOf stored es (IsAnAncestor u v) =
    (parents_of es (uid_name u) ≢ []) × (is_among (uid_name u) (recorded (stored (uid_name v))) ≡ true)
IsRefusedOf stored es (Cycle u) = Leads (parents_of es) (uid_name u) (uid_name u)
