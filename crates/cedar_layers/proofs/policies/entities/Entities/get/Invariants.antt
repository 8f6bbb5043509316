use Rattle.std.proofs.Common.{◌≡◌, drop}
use Rattle.cedar_names.specs.Names.{uid_name}
use Rattle.cedar_layers.specs.Stores.{standing_in, stored_entity}
use Rattle.cedar_layers.proofs.Stores.{entries_of}
use Rattle.cedar_layers.proofs.policies.entities.Entities.get.Given as goal

abbrev pub invariant-layers : goal.invariant-layers
invariant-layers l =
    standing_in (entries_of (drop l.layer-index l.layer-items)) (uid_name l.fn.uid) ≡ stored_entity l.fn.self (uid_name l.fn.uid)
