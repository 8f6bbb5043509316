use Rattle.std.proofs.Common.{◌≡◌, drop}
use Rattle.json.specs.Value.{members_view}
use Rattle.cedar_json_reader.specs.SaidEntities.{is_entity_key, first_other}
use Rattle.cedar_json_reader.proofs.entities.find_unexpected.Given as goal

abbrev pub invariant-members : goal.invariant-members
invariant-members l = first_other is_entity_key (members_view (drop l.member-index l.member-items)) ≡ first_other is_entity_key (members_view l.member-items)
