use Rattle.std.proofs.Common.{◌≡◌, map}
use Rattle.std.specs.Vec.Iter.{into_iter_items}
use Rattle.cedar_expressions.specs.View.{view}
use Rattle.cedar_policy_json_reader.specs.Policies.{joined_behind}
use Rattle.cedar_policy_json_reader.proofs.conditions.join_behind.Given as goal

-- what is joined so far, and what is left
abbrev pub invariant-others : goal.invariant-others
invariant-others l =
    joined_behind (view l.joined) (map view (into_iter_items l.other-iterator)) ≡ joined_behind (view l.fn.first) (map view l.fn.others.items)
