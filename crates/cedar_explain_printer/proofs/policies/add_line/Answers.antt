-- The view of the line is behind the others.
use Rattle.cedar_explain_printer.specs.Lines.{line_view}
use Rattle.cedar_explain_printer.proofs.Listing.{one_more}
use Rattle.cedar_explain_printer.proofs.policies.add_line.Goals as goal

pub returns : goal.returns
returns c = one_more line_view c.args.lines.now.items _ _ c.in_ok-add_last.ensures.ok
