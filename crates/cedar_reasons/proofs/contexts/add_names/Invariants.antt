use Rattle.std.proofs.Common.{◌≡◌, ◌++◌, map}
use Rattle.cedar_restricted.proofs.Collected.{names_under}
use Rattle.cedar_reasons.specs.Facts.{facts_view, of_context_value}
use Rattle.cedar_reasons.proofs.contexts.add_names.Given as goal

-- those that are there, and those that are left
abbrev pub invariant-names : goal.invariant-names
invariant-names g l =
    facts_view l.facts.items ++ map of_context_value (names_under l.name-iterator)
    ≡ facts_view l.fn.facts.items ++ map of_context_value (names_under l.fn.pairs.entries)
