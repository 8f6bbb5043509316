use Rattle.std.proofs.Common.{◌≡◌, nat_lt, drop}
use Rattle.json.specs.Value.{items_view}
use Rattle.cedar_endpoints.specs.Bounds.{parents_in}
use Rattle.cedar_endpoints.proofs.bounds.name_more.Given as goal

-- too many are named where more than are left are named by those entities that are left
abbrev pub invariant-entities : goal.invariant-entities
invariant-entities l =
    nat_lt l.fn.most (parents_in (items_view l.fn.entities.items))
    ≡ nat_lt l.left (parents_in (items_view (drop l.entity-index l.entity-items)))
