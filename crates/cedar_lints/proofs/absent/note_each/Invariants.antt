use Rattle.std.proofs.Common.{◌≡◌, drop}
use Rattle.cedar_lints.specs.Absent.{absent_of_each, extent_view, mention_key, sheet_view}
use Rattle.cedar_lints.specs.Keys.{noted_each}
use Rattle.cedar_lints.specs.Knowing.{known_view}
use Rattle.cedar_lints.specs.Mentions.{mentions_seen}
use Rattle.cedar_lints.proofs.absent.note_each.Given as goal

-- what is left to note leads where all of it does
abbrev pub invariant-mentions : goal.invariant-mentions
invariant-mentions l =
    noted_each mention_key (sheet_view l.sheet)
    (absent_of_each (extent_view l.extent) (known_view l.fn.known) (mentions_seen (drop l.mention-index l.mentions)))
    ≡ noted_each mention_key (sheet_view l.fn.sheet)
    (absent_of_each (extent_view l.extent) (known_view l.fn.known) (mentions_seen l.mentions))
