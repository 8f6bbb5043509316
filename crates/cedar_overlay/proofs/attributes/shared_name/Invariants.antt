use Rattle.std.proofs.Common.{◌≡◌, false, List, ◌++◌, map}
use Rattle.std.specs.List.{list_any}
use Rattle.std.specs.Option.{is_some}
use Rattle.std.specs.Rc.{rc_str_bytes}
use Rattle.cedar_model.specs.Terms.{Text}
use Rattle.cedar_model.specs.Settings.{part_at, names_of}
use Rattle.cedar_layers.specs.Stores.{entity_view}
use Rattle.cedar_overlay.specs.Overlaid.{values_view}
use Rattle.cedar_overlay.proofs.attributes.shared_name.Given as goal

-- the names that were looked at, of which the entity has none, and those that are left
abbrev pub invariant-names : goal.invariant-names
invariant-names l =
    (done : List Text) × (names_of (values_view l.fn.attributes) ≡ done ++ map rc_str_bytes l.name-iterator)
    × (list_any (λ k. is_some (part_at k (entity_view l.fn.stored).attributes)) done ≡ false)
