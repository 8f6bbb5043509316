use Rattle.std.proofs.Common.{drop}
use Rattle.cedar_layers.specs.Scopes.{names_at, under_entity}
use Rattle.cedar_layers.proofs.Placing.{AreAddedSoFar}
use Rattle.cedar_layers.proofs.policies.scope_index.ScopeIndex.add_groups.Given as goal

abbrev pub invariant-uids : goal.invariant-uids
invariant-uids l =
    AreAddedSoFar (under_entity l.fn.self) (names_at l.fn.uids) (names_at (drop l.uid-index l.uids)) l.fn.positions.items l.positions.items
