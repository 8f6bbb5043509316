-- Names that the entities of a store record as ancestors, and that the store lacks.
use Rattle.std.specs.Prelude.{◌≡◌, ◌⊎◌, true, List, Option, None, Some}
use Rattle.std.specs.Map.{lookup}
use Rattle.std.specs.Option.{is_some}
use Rattle.cedar_model.specs.Terms.{EntityName}
use Rattle.cedar_model.specs.Outcomes.{entity_eq}
use Rattle.cedar_model.specs.Settings.{is_among}
use Rattle.cedar_names.specs.declared.names.EntityUID.{EntityUID}
use Rattle.cedar_names.specs.Names.{uid_name}
use Rattle.cedar_layers.specs.Stores.{Standing}
use Rattle.cedar_hierarchy.specs.Ancestry.{recorded}
use mathlib.Core.Bool.{Bool-set}

-- uids of ancestors, each with the uid of an entity that records it
abbrev pub Recorders : Type 0
Recorders = List (EntityUID × EntityUID)

-- the entity that stands beside the ancestor of this name, if there is one
abbrev pub recorder_of : Recorders → EntityName → Option EntityUID
recorder_of rs n = lookup (λ (u : EntityUID). entity_eq n (uid_name u)) rs

-- each name that an entity of the store records and that the store lacks is among them
abbrev pub AreAllMissing : Standing → Recorders → Type 0
AreAllMissing stored rs =
    (n k : EntityName) → stored n ≡ None → is_among n (recorded (stored k)) ≡ true → is_some (recorder_of rs n) ≡ true

pub AreAllMissing-prop : (stored : Standing) (rs : Recorders) (x y : AreAllMissing stored rs) → x ≡ y
AreAllMissing-prop stored rs x y = λ i n k none h. Bool-set _ _ (x n k none h) (y n k none h) i

-- each is recorded by the stored entity that stands beside it
abbrev pub AreRecorded : Standing → Recorders → Type 0
AreRecorded stored rs =
    (n : EntityName) (u : EntityUID) → recorder_of rs n ≡ Some u → is_among n (recorded (stored (uid_name u))) ≡ true

pub AreRecorded-prop : (stored : Standing) (rs : Recorders) (x y : AreRecorded stored rs) → x ≡ y
AreRecorded-prop stored rs x y = λ i n u h. Bool-set _ _ (x n u h) (y n u h) i

-- those that were there stay, those of these names that the store lacks are there, and what is new stands beside this
-- one
pub record Notes (stored : Standing) (old new : Recorders) (names : List EntityName) (of : EntityName) : Type 0 where
  pub stay : (n : EntityName) → is_some (recorder_of old n) ≡ true → is_some (recorder_of new n) ≡ true
  pub noted : (n : EntityName) → is_among n names ≡ true → stored n ≡ None → is_some (recorder_of new n) ≡ true
  pub only : (n : EntityName) (u : EntityUID) → recorder_of new n ≡ Some u
      → (recorder_of old n ≡ Some u) ⊎ ((is_among n names ≡ true) × (uid_name u ≡ of))
