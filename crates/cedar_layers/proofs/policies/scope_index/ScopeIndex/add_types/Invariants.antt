use Rattle.std.proofs.Common.{drop}
use Rattle.cedar_layers.specs.Scopes.{names_at, under_type}
use Rattle.cedar_layers.proofs.Placing.{AreAddedSoFar, IsLastAdded}
use Rattle.cedar_layers.proofs.policies.scope_index.ScopeIndex.add_types.Given as goal

abbrev pub invariant-uids : goal.invariant-uids
invariant-uids l =
    AreAddedSoFar (λ e. under_type l.fn.self e.type_name) (names_at l.fn.uids) (names_at (drop l.uid-index l.uids)) l.fn.positions.items l.positions.items × IsLastAdded l.fn.self l.last l.positions.items
