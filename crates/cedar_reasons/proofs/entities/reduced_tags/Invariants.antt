use Rattle.std.proofs.Common.{◌≡◌, true, map}
use Rattle.std.specs.Rc.{rc_str_bytes}
use Rattle.cedar_layers.specs.Parts.{parts_view, are_restricted_parts}
use Rattle.cedar_layers.specs.Stores.{entity_name, entity_view}
use Rattle.cedar_reasons.specs.Facts.{facts_view}
use Rattle.cedar_reasons.specs.Reduced.{reduced_tag}
use Rattle.cedar_reasons.proofs.Parts.{AreUnderWay}
use Rattle.cedar_reasons.proofs.entities.reduced_tags.Given as goal

abbrev pub invariant-names : goal.invariant-names
invariant-names l = record {
  way : AreUnderWay (entity_view l.fn.entity).tags (reduced_tag (facts_view l.fn.facts) (entity_name l.fn.entity))
      (map rc_str_bytes l.name-iterator) (parts_view l.tags.entries);
  restricted : are_restricted_parts (parts_view l.tags.entries) ≡ true;
}
