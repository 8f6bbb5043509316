use Rattle.std.proofs.Common.{◌≡◌, ◌++◌, map}
use Rattle.std.specs.Rc.{rc_str_bytes}
use Rattle.cedar_model.specs.Settings.{names_of}
use Rattle.cedar_layers.specs.Stores.{entity_name, entity_view}
use Rattle.cedar_reasons.specs.Facts.{facts_view, of_tag}
use Rattle.cedar_reasons.proofs.facts.add_tags.Given as goal

-- those that are there, and those that are left
abbrev pub invariant-names : goal.invariant-names
invariant-names l =
    facts_view l.facts.items ++ map (of_tag (entity_name l.fn.entity)) (map rc_str_bytes l.name-iterator)
    ≡ facts_view l.fn.facts.items ++ map (of_tag (entity_name l.fn.entity)) (names_of (entity_view l.fn.entity).tags)
