use Rattle.std.proofs.Common.{◌≡◌, ◌++◌, drop, map}
use Rattle.std.specs.Rc.{rc_str_bytes}
use Rattle.cedar_model.specs.Settings.{printed_entity}
use Rattle.cedar_names.specs.Names.{uid_name}
use Rattle.cedar_cli.proofs.left.open_entities.Given as goal

abbrev pub invariant-entities : goal.invariant-entities
invariant-entities l =
    map rc_str_bytes l.names.items ++ map printed_entity (map uid_name (drop l.entity-index l.entities))
    ≡ map rc_str_bytes l.fn.names.items ++ map printed_entity (map uid_name l.fn.entities)
