use Rattle.std.proofs.Common.{◌≡◌, ◌++◌}
use Rattle.cedar_plan.specs.Planned.{ids_view}
use Rattle.cedar_plan.specs.Entries.{true_ids}
use Rattle.cedar_plan.proofs.planning.add_ids.Given as goal

-- the ids so far and those that are still to come
abbrev pub invariant-entries : goal.invariant-entries
invariant-entries l =
    ids_view l.ids.items ++ true_ids l.id-iterator ≡ ids_view l.fn.ids.items ++ true_ids l.fn.entries.entries
