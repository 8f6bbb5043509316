use Rattle.std.proofs.Common.{◌≡◌, ◌++◌, List, drop, map}
use Rattle.cedar_template_links.specs.Links.{LinkView, link_view}
use Rattle.cedar_template_links.specs.LinkFiles.{written_view, AreReadAs}
use Rattle.cedar_template_links.proofs.files.put_parsed.Given as goal

-- the links that are read, and behind them whatever the others are read as
abbrev pub invariant-links : goal.invariant-links
invariant-links l =
    (l.index ≡ l.link-index)
    × ((rest : List LinkView) → AreReadAs (map written_view (drop l.link-index l.fn.all)) rest
    → AreReadAs (map written_view l.fn.all) (map link_view l.read.items ++ rest))
