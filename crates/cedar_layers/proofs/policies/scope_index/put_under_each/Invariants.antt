use Rattle.std.proofs.Common.{drop}
use Rattle.cedar_layers.specs.Scopes.{names_at}
use Rattle.cedar_layers.proofs.Placing.{AreLeft}
use Rattle.cedar_layers.proofs.policies.scope_index.put_under_each.Given as goal

abbrev pub invariant-uids : goal.invariant-uids
invariant-uids l =
    AreLeft l.fn.groups.entries l.groups.entries (names_at l.uids) (names_at (drop l.uid-index l.uids)) l.at
