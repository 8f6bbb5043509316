use Rattle.std.proofs.Common.{◌≡◌, drop}
use Rattle.cedar_names.specs.Names.{uid_name}
use Rattle.cedar_lints.specs.Keys.{noted_each}
use Rattle.cedar_lints.specs.Lookalikes.{each_of, lookalike_key, sheet_view}
use Rattle.cedar_lints.specs.Paths.{paths_view}
use Rattle.cedar_lints.proofs.lookalikes.note_each.Given as goal

-- what is left to note leads where all of it does
abbrev pub invariant-paths : goal.invariant-paths
invariant-paths l =
    noted_each lookalike_key (sheet_view l.sheet) (each_of (uid_name l.uid) (paths_view (drop l.names-index l.paths)))
    ≡ noted_each lookalike_key (sheet_view l.fn.sheet) (each_of (uid_name l.uid) (paths_view l.paths))
