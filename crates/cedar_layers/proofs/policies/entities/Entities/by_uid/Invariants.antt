use Rattle.std.proofs.Common.{◌≡◌, drop}
use Rattle.cedar_layers.specs.Stores.{shown, or_below, standing_in, stored_entity}
use Rattle.cedar_layers.proofs.Stores.{entries_of}
use Rattle.cedar_layers.proofs.policies.entities.Entities.by_uid.Given as goal

abbrev pub invariant-layers : goal.invariant-layers
invariant-layers l =
    or_below (shown l.listed.entries) (standing_in (entries_of (drop l.layer-index l.layer-items))) ≡ stored_entity l.fn.self
