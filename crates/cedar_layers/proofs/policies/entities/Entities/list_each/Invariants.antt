use Rattle.std.proofs.Common.{◌≡◌}
use Rattle.cedar_layers.specs.Stores.{standing, shown, or_below}
use Rattle.cedar_layers.proofs.policies.entities.Entities.list_each.Given as goal

abbrev pub invariant-entries : goal.invariant-entries
invariant-entries l =
    or_below (shown l.listed.entries) (standing l.uid-iterator) ≡ or_below (shown l.fn.listed.entries) (standing l.fn.layer.entries)
