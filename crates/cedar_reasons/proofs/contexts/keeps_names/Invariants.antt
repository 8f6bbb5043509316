use Rattle.std.proofs.Common.{◌≡◌}
use Rattle.cedar_restricted.proofs.Collected.{names_under}
use Rattle.cedar_reasons.specs.Facts.{facts_view}
use Rattle.cedar_reasons.specs.Reduced.{keeps_names}
use Rattle.cedar_reasons.proofs.contexts.keeps_names.Given as goal

-- those that are left decide
abbrev pub invariant-names : goal.invariant-names
invariant-names g l =
    keeps_names (facts_view l.fn.facts) (names_under l.name-iterator)
    ≡ keeps_names (facts_view l.fn.facts) (names_under l.fn.pairs.entries)
