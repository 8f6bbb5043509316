-- What entities hold.
use Rattle.std.specs.Prelude.{◌≡◌, List, [], ◌∷◌, Some}
use Rattle.cedar_model.specs.Terms.{Text}
use Rattle.cedar_model.specs.Failures.{PartialValue}
use Rattle.cedar_model.specs.Settings.{StoredEntity, part_at}
use Rattle.cedar_layers.specs.declared.policies.entities.Entity.{Entity}
use Rattle.cedar_layers.specs.Stores.{entity_view}

-- each attribute and each tag of an entity is such a part
abbrev pub FactsAre : (PartialValue → Type 0) → StoredEntity → Type 0
FactsAre Such x =
    (k : Text) (p : PartialValue) → (part_at k x.attributes ≡ Some p → Such p)
    × (part_at k x.tags ≡ Some p → Such p)

-- so it is of each of these entities
abbrev pub EachHas : (PartialValue → Type 0) → List Entity → Type 0
EachHas Such [] = Unit {0}
EachHas Such (e ∷ es) = FactsAre Such (entity_view e) × EachHas Such es
