use Rattle.std.proofs.Common.{◌≡◌, max, map}
use Rattle.std.specs.Rc.{rc_str_bytes}
use Rattle.cedar_model.specs.Settings.{names_of}
use Rattle.cedar_layers.specs.Stores.{entity_view}
use Rattle.cedar_heights.specs.Capped.{capped}
use Rattle.cedar_heights.specs.Heights.{greatest_under}
use Rattle.cedar_heights.proofs.entities.attributes_height.Given as goal

-- what is found and what is left are together as high as all
abbrev pub invariant-names : goal.invariant-names
invariant-names l =
    max (capped (greatest_under (map rc_str_bytes l.name-iterator) (entity_view l.fn.entity).attributes)) l.found
    ≡ capped (greatest_under (names_of (entity_view l.fn.entity).attributes) (entity_view l.fn.entity).attributes)
