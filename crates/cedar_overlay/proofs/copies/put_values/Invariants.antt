use Rattle.std.proofs.Common.{◌≡◌, true}
use Rattle.cedar_layers.specs.Parts.{parts_view, values_as_parts, are_restricted_parts}
use Rattle.cedar_overlay.specs.Overlaid.{put_each, values_view}
use Rattle.cedar_overlay.proofs.copies.put_values.Given as goal

abbrev pub invariant-values : goal.invariant-values
invariant-values l = record {
  put : put_each (parts_view (values_as_parts l.name-iterator)) (parts_view l.parts.entries) ≡ put_each (values_view l.fn.more) (parts_view l.fn.parts.entries);
  restricted : are_restricted_parts (parts_view l.parts.entries) ≡ true;
}
