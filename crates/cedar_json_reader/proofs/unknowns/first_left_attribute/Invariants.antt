use Rattle.std.proofs.Common.{◌≡◌, map}
use Rattle.std.specs.Rc.{rc_str_bytes}
use Rattle.cedar_model.specs.Settings.{names_of}
use Rattle.cedar_layers.specs.Stores.{entity_view}
use Rattle.cedar_json_reader.specs.NothingUnknown.{first_left}
use Rattle.cedar_json_reader.proofs.unknowns.first_left_attribute.Given as goal

abbrev pub invariant-names : goal.invariant-names
invariant-names l =
    first_left (entity_view l.fn.entity).attributes (map rc_str_bytes l.name-iterator)
    ≡ first_left (entity_view l.fn.entity).attributes (names_of (entity_view l.fn.entity).attributes)
