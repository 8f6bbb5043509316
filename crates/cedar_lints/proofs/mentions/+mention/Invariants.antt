use Rattle.std.proofs.Common.{◌≡◌, ◌+◌, ◌*◌, ◌++◌, max, drop}
use Rattle.cedar_expressions.specs.declared.expr.Expr.{size-Expr}
use Rattle.cedar_lints.specs.Mentions.{mentions_each, mentions_at, mentions_seen}
use Rattle.cedar_lints.proofs.mentions.+mention.Given as goal

-- what is found and what is left are all of it
abbrev pub invariant-push_each-parts : goal.invariant-push_each-parts
invariant-push_each-parts l =
    mentions_seen l.found.items ++ mentions_each (drop l.part-index l.part-items)
    ≡ mentions_seen l.initial.found.items ++ mentions_each l.parts.items

abbrev pub invariant-push_at-parts : goal.invariant-push_at-parts
invariant-push_at-parts l =
    mentions_seen l.found.items ++ mentions_at l.part-iterator
    ≡ mentions_seen l.initial.found.items ++ mentions_at l.parts.entries

-- an expression is larger than its parts, and what goes through several parts stands above what goes through one
abbrev pub decreases-push_mentions : goal.decreases-push_mentions
decreases-push_mentions l = 5 * size-Expr l.expr.now

abbrev pub decreases-push_two : goal.decreases-push_two
decreases-push_two l = 5 * max (size-Expr l.first.now) (size-Expr l.second.now) + 2

abbrev pub decreases-push_three : goal.decreases-push_three
decreases-push_three l = 5 * max (size-Expr l.first.now) (max (size-Expr l.second.now) (size-Expr l.third.now)) + 3

abbrev pub decreases-push_test : goal.decreases-push_test
decreases-push_test l = 5 * size-Expr l.tested.now + 2

abbrev pub decreases-push_each : goal.decreases-push_each
decreases-push_each l = 5 * goal.size-push_each l + 3

abbrev pub decreases-push_at : goal.decreases-push_at
decreases-push_at l = 5 * goal.size-push_at l + 3
