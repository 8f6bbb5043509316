use Rattle.std.proofs.Common.{◌≡◌}
use Rattle.cedar_lints.specs.Keys.{noted_each, nothing}
use Rattle.cedar_lints.specs.Lookalikes.{Lookalike, listed_lookalikes, lookalike_key, part_view, sheet_view}
use Rattle.cedar_lints.proofs.lookalikes.lookalikes_in_entities.Given as goal

-- what is left to note leads where all of it does
abbrev pub invariant-entities : goal.invariant-entities
invariant-entities l =
    noted_each lookalike_key (sheet_view l.sheet) (listed_lookalikes (part_view l.part) l.uid-iterator)
    ≡ noted_each lookalike_key (nothing Lookalike) (listed_lookalikes (part_view l.part) l.initial.uid-iterator)
