-- Worlds that have a row: there is one for each entity of values, and a stored entity is a row of each world that
-- agrees with request and store.
use Rattle.std.specs.Prelude.{◌≡◌, List, [], ◌∷◌, Option, Some, codes}
use Rattle.cedar_model.specs.Terms.{Text, EntityName}
use Rattle.cedar_model.specs.Failures.{PartialValue, value, residual}
use Rattle.cedar_model.specs.Settings.{StoredEntity, Store, RequestPart, unknown_entry}
use Rattle.cedar_model.specs.World.{World, Extensions, Functions}
use Rattle.cedar_model.specs.Agreement.{AgreesWithRequest, AgreesWithStore}
use Rattle.cedar_filter.specs.Rows.{HasRow}

abbrev pub IsValue : PartialValue → Type 0
IsValue (value v) = Unit {0}
IsValue (residual t) = ⊥

-- each part is a value
abbrev pub AreValues : List (Text × PartialValue) → Type 0
AreValues [] = Unit {0}
AreValues (p ∷ ps) = IsValue p.1 × AreValues ps

-- an entity whose attributes and tags are values is the row of some world, whatever it stands for
abbrev pub RowsHaveWorlds : Type 0
RowsHaveWorlds =
    (X : Extensions) (ans : Functions) (n : Text) (e : EntityName) (x : StoredEntity) → AreValues x.attributes
    → AreValues x.tags → (w : World) × HasRow X ans w n e x

-- in a world that agrees with request and store, the entity that an unknown principal or resource turns out to be is
-- the row, if the store has it
abbrev pub StoredRowsAreRows : Type 0
StoredRowsAreRows =
    (X : Extensions) (ans : Functions) (w : World) (r : RequestPart) (s : Store) (x : StoredEntity) (t : Option Text)
    → AgreesWithRequest X ans w r → AgreesWithStore X ans w s
    → ((r.principal_entry ≡ unknown_entry t → s.entity w.principal_entity ≡ Some x
    → HasRow X ans w (codes "principal") w.principal_entity x)
    × (r.resource_entry ≡ unknown_entry t → s.entity w.resource_entity ≡ Some x
    → HasRow X ans w (codes "resource") w.resource_entity x))
