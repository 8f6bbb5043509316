use Rattle.std.proofs.Common.{◌≡◌, length, map, string_bytes}
use Rattle.cedar_model.specs.Outcomes.{has_text}
use Rattle.cedar_expectations.proofs.lists.has_text.Given as goal

-- the text is one of all exactly if it is one of those that are left
abbrev pub invariant-texts : goal.invariant-texts
invariant-texts l =
    has_text l.fn.text (map string_bytes l.fn.texts) ≡ has_text l.fn.text (map string_bytes l.rest)

abbrev pub decreases-texts : goal.decreases-texts
decreases-texts l = length l.rest
