use Rattle.std.proofs.Common.{◌≡◌, take}
use Rattle.cedar_layers.specs.Stores.{stored_entity}
use Rattle.cedar_hierarchy.specs.Sorting.{named_in, named_of}
use Rattle.cedar_overlay.specs.Adding.{AreNew}
use Rattle.cedar_overlay.proofs.checks.names_of_new.Given as goal

abbrev pub invariant-brought : goal.invariant-brought
invariant-brought l = record {
  names : named_in l.names.keys ≡ named_of (take l.entity-index l.brought.items);
  new : AreNew (stored_entity l.entities) (take l.entity-index l.brought.items);
}
