-- The store that is added to.
use Rattle.cedar_layers.specs.declared.policies.entities.Entities.{Entities}
use Rattle.cedar_overlay.specs.declared.base.Base.{Base}

abbrev pub base_entities : Base → Entities
base_entities b = b.entities
