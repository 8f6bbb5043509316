use Rattle.std.proofs.Common.{codes, sym}
use Rattle.json.specs.Value.{value_view}
use Rattle.cedar_service.proofs.Without.{writable_member}
use Rattle.cedar_service.proofs.brought.brought_over.Goals as goal

pub over_json-requires : goal.over_json-requires
over_json-requires g c = writable_member (codes "entities") (value_view c.args.value.now) _ c.requires (sym c.in-Some.ensures)
