use Rattle.std.proofs.Common.{◌++◌, map, drop, string_bytes}
use Rattle.cedar_model.specs.Terms.{Text}
use Rattle.cedar_explain_printer.specs.Lines.{line_view}
use Rattle.cedar_cli.specs.Explained.{AreToldLines}
use Rattle.cedar_cli.proofs.explanations.told_lines.Given as goal

-- what is told is all, once the lines that are left stand behind it
abbrev pub invariant-lines : goal.invariant-lines
invariant-lines l =
    (t : Text) → AreToldLines l.fn.places.source.text.now (map line_view (drop l.line-index l.fn.lines)) t
    → AreToldLines l.fn.places.source.text.now (map line_view l.fn.lines) (string_bytes l.told ++ t)
