-- How requests are taken.
use Rattle.std.specs.Prelude.{Bool, true, false, not}
use Rattle.cedar_model.specs.Terms.{Text}
use Rattle.cedar_endpoints.specs.declared.bounds.Bounds.{Bounds}
use Rattle.cedar_service.specs.declared.ways.RequestEntities.{RequestEntities}
use Rattle.cedar_service.specs.declared.ways.RequestProperties.{RequestProperties}
use Rattle.cedar_service.specs.declared.ways.RequestProperties.TheVariants as claims
use Rattle.cedar_service.specs.declared.ways.Ways as rust_ways

-- whether properties stand instead of stored attributes of their names
abbrev pub wins : RequestProperties → Bool
wins claims.None = false
wins claims.Unstored = false
wins claims.Beside = false
wins claims.Win = true

-- whether properties are taken of an entity that is stored, or that is not
abbrev pub are_taken : RequestProperties → Bool → Bool
are_taken claims.None is_stored = false
are_taken claims.Unstored is_stored = not is_stored
are_taken claims.Beside is_stored = true
are_taken claims.Win is_stored = true

-- of which entities properties are taken; whether a request may bring entities; how much one may ask and bring; and the
-- type of the actions, of which an evaluation has the ids alone
pub record Ways : Type 0 where
  pub properties : RequestProperties
  pub entities : RequestEntities
  pub bounds : Bounds
  pub action_type : Text

abbrev pub ways_of : RequestProperties → RequestEntities → Bounds → Text → Ways
ways_of c e b ty = record { properties = c; entities = e; bounds = b; action_type = ty }

abbrev pub ways_view : rust_ways.Ways → Ways
ways_view w = ways_of w.properties w.entities w.bounds w.action_type.now
