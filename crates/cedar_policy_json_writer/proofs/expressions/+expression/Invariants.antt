use Rattle.std.proofs.Common.{◌≡◌, ◌+◌, ◌*◌, ◌++◌, max, map, drop}
use Rattle.cedar_expressions.specs.declared.expr.Expr.{size-Expr}
use Rattle.cedar_layers.specs.Policies.{slots_view}
use Rattle.cedar_json_writer.specs.Trees.{json_view, members_seen}
use Rattle.cedar_policy_json_writer.proofs.Parts.{part_json, pair_json}
use Rattle.cedar_policy_json_writer.proofs.expressions.+expression.Given as goal

-- those that are written, and those that are left
abbrev pub invariant-list_to_json-parts : goal.invariant-list_to_json-parts
invariant-list_to_json-parts l =
    map json_view l.items.items ++ map (part_json (slots_view l.slots)) (drop l.part-index l.parts)
    ≡ map (part_json (slots_view l.slots)) l.parts

abbrev pub invariant-record_to_json-pairs : goal.invariant-record_to_json-pairs
invariant-record_to_json-pairs l =
    members_seen l.members.items ++ map (pair_json (slots_view l.slots)) l.key-iterator
    ≡ map (pair_json (slots_view l.slots)) l.pairs.entries

-- an expression is larger than its parts, and what writes several parts stands above what writes one
abbrev pub decreases-linked_to_json : goal.decreases-linked_to_json
decreases-linked_to_json l = 5 * size-Expr l.expr.now

abbrev pub decreases-if_to_json : goal.decreases-if_to_json
decreases-if_to_json l = 5 * max (size-Expr l.test_expr.now) (max (size-Expr l.then_expr.now) (size-Expr l.else_expr.now)) + 3

abbrev pub decreases-one_to_json : goal.decreases-one_to_json
decreases-one_to_json l = 5 * size-Expr l.arg.now + 3

abbrev pub decreases-two_to_json : goal.decreases-two_to_json
decreases-two_to_json l = 5 * max (size-Expr l.left.now) (size-Expr l.right.now) + 3

abbrev pub decreases-attribute_to_json : goal.decreases-attribute_to_json
decreases-attribute_to_json l = 5 * size-Expr l.expr.now + 3

abbrev pub decreases-has_to_json : goal.decreases-has_to_json
decreases-has_to_json l = 5 * size-Expr l.expr.now + 3

abbrev pub decreases-like_to_json : goal.decreases-like_to_json
decreases-like_to_json l = 5 * size-Expr l.expr.now + 3

abbrev pub decreases-is_to_json : goal.decreases-is_to_json
decreases-is_to_json l = 5 * size-Expr l.expr.now + 3

abbrev pub decreases-list_to_json : goal.decreases-list_to_json
decreases-list_to_json l = 5 * goal.size-list_to_json l + 3

abbrev pub decreases-record_to_json : goal.decreases-record_to_json
decreases-record_to_json l = 5 * goal.size-record_to_json l + 3
