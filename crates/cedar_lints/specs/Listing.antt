-- The entities of a store, one after the other.
use Rattle.std.specs.Prelude.{◌≡◌, List}
use Rattle.std.specs.Borrow.{Bor}
use Rattle.std.specs.List.Sorted.{IsStrictlySortedBy}
use Rattle.std.specs.Map.{keys_of}
use Rattle.cedar_names.specs.contracts.names.EntityUIDOrd.TheImpl.{cmp-value}
use Rattle.cedar_names.specs.declared.names.EntityUID.{EntityUID}
use Rattle.cedar_layers.specs.declared.policies.entities.Entities.{Entities}
use Rattle.cedar_layers.specs.declared.policies.entities.Entity.{Entity}
use Rattle.cedar_layers.specs.Stores.{shown, stored_entity}

abbrev pub Listing : Type 0
Listing = List (EntityUID × Bor Entity)

-- these are the entities that the store has, each once, in the order of their names
pub record IsListing (s : Entities) (es : Listing) : Type 0 where
  pub shows : shown es ≡ stored_entity s
  pub in_order : IsStrictlySortedBy cmp-value.it (keys_of es)
