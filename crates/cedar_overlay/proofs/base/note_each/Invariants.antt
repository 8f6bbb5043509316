use Rattle.std.proofs.Common.{◌≡◌, List, ◌++◌, map}
use Rattle.cedar_model.specs.Terms.{EntityName}
use Rattle.cedar_names.specs.Names.{uid_name}
use Rattle.cedar_layers.specs.Stores.{stored_entity}
use Rattle.cedar_overlay.specs.Recorded.{Notes}
use Rattle.cedar_overlay.proofs.base.note_each.Given as goal

-- the names that were noted, and those that are left
abbrev pub invariant-ancestors : goal.invariant-ancestors
invariant-ancestors l =
    (done : List EntityName) × (map uid_name l.ancestors.keys ≡ done ++ map uid_name l.ancestor-iterator)
    × Notes (stored_entity l.entities) l.fn.missing.entries l.missing.entries done (uid_name l.of)
