use Rattle.std.proofs.Common.{◌≡◌, drop}
use Rattle.cedar_json_reader.specs.NothingUnknown.{unknown_from}
use Rattle.cedar_json_reader.proofs.unknowns.refuse_unknown_entities.Given as goal

-- those before are known
abbrev pub invariant-entities : goal.invariant-entities
invariant-entities l =
    (l.index ≡ l.entity-index) × (unknown_from l.index (drop l.entity-index l.entities) ≡ unknown_from 0 l.entities)
