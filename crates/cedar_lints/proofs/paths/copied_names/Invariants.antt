use Rattle.std.proofs.Common.{◌≡◌, ◌++◌, drop}
use Rattle.cedar_names.specs.Leaves.{texts_view}
use Rattle.cedar_lints.specs.Paths.{names_seen}
use Rattle.cedar_lints.proofs.paths.copied_names.Given as goal

-- what is copied and what is left are all of it
abbrev pub invariant-names : goal.invariant-names
invariant-names l =
    texts_view l.copies.items ++ names_seen (drop l.name-index l.names) ≡ names_seen l.names
