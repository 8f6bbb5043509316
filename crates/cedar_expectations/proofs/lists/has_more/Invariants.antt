use Rattle.std.proofs.Common.{◌≡◌, length, map, string_bytes}
use Rattle.cedar_expectations.specs.Lists.{has_more}
use Rattle.cedar_expectations.proofs.lists.has_more.Given as goal

-- one of all is none of the others exactly if one of those that are left is
abbrev pub invariant-texts : goal.invariant-texts
invariant-texts l =
    has_more (map string_bytes l.fn.texts) (map string_bytes l.fn.others)
    ≡ has_more (map string_bytes l.rest) (map string_bytes l.fn.others)

abbrev pub decreases-texts : goal.decreases-texts
decreases-texts l = length l.rest
