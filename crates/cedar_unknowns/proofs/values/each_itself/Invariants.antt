use Rattle.std.proofs.Common.{◌≡◌, drop, map, None}
use Rattle.cedar_names.specs.Names.{uid_name}
use Rattle.cedar_requests.specs.Substitutions.{values_for}
use Rattle.cedar_unknowns.specs.Valued.{with_each}
use Rattle.cedar_unknowns.proofs.values.each_itself.Given as goal

abbrev pub invariant-entities : goal.invariant-entities
invariant-entities l =
    with_each (values_for l.values.entries) (map uid_name (drop l.uid-index l.entities.items))
    ≡ with_each (λ n. None) (map uid_name l.entities.items)
