-- The heading, and then each.
use Rattle.std.proofs.Common.{[], ◌∷◌, map, codes}
use Rattle.cedar_explain_printer.specs.Lines.{line_view, heading_line, lack_line}
use Rattle.cedar_explain_printer.proofs.Listing.{two_put}
use Rattle.cedar_explain_printer.proofs.lacks.add_some_lacks.Goals as goal

pub returns : goal.returns
returns c =
    two_put (map line_view c.args.lines.now.items) _ _ (heading_line (codes "what alone keeps a permit from applying:") ∷ [])
    (map lack_line c.args.lacks.now) c.in_ok-add_heading.ensures c.in_ok-add_each_lack.ensures
