use Rattle.std.proofs.Common.{◌≡◌, drop}
use Rattle.cedar_lints.specs.Keys.{noted_each, nothing}
use Rattle.cedar_lints.specs.Lookalikes.{path_key, path_sheet}
use Rattle.cedar_lints.specs.Paths.{Path, paths_view}
use Rattle.cedar_lints.proofs.lookalikes.each_once.Given as goal

-- what is left to note leads where all of it does
abbrev pub invariant-paths : goal.invariant-paths
invariant-paths l =
    noted_each path_key (path_sheet l.keys.keys l.items.items) (paths_view (drop l.path-index l.paths))
    ≡ noted_each path_key (nothing Path) (paths_view l.paths)
