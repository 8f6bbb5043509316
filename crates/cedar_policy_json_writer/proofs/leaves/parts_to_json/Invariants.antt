use Rattle.std.proofs.Common.{◌≡◌, ◌++◌, map, drop}
use Rattle.cedar_names.specs.Leaves.{part_view}
use Rattle.cedar_json_writer.specs.Trees.{json_view}
use Rattle.cedar_policy_json_writer.specs.Expressions.{pattern_part_json}
use Rattle.cedar_policy_json_writer.proofs.leaves.parts_to_json.Given as goal

-- those that are written, and those that are left
abbrev pub invariant-parts : goal.invariant-parts
invariant-parts l =
    map json_view l.items.items ++ map pattern_part_json (map part_view (drop l.part-index l.fn.parts))
    ≡ map pattern_part_json (map part_view l.fn.parts)
