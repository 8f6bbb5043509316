use Rattle.std.proofs.Common.{◌≡◌, true, map}
use Rattle.std.specs.Rc.{rc_str_bytes}
use Rattle.cedar_layers.specs.Parts.{parts_view, are_restricted_parts}
use Rattle.cedar_layers.specs.Stores.{entity_view}
use Rattle.cedar_overlay.proofs.Parts.{AreUnderWay}
use Rattle.cedar_overlay.proofs.copies.copied_attributes.Given as goal

abbrev pub invariant-names : goal.invariant-names
invariant-names l = record {
  way : AreUnderWay (entity_view l.fn.entity).attributes (map rc_str_bytes l.name-iterator) (parts_view l.attributes.entries);
  restricted : are_restricted_parts (parts_view l.attributes.entries) ≡ true;
}
