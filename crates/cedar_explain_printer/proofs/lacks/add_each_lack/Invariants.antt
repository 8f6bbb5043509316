use Rattle.std.proofs.Common.{◌≡◌, ◌++◌, map, drop}
use Rattle.cedar_explain_printer.specs.Lines.{line_view, lack_line}
use Rattle.cedar_explain_printer.proofs.lacks.add_each_lack.Given as goal

-- those that are put, and those that are left
abbrev pub invariant-lacks : goal.invariant-lacks
invariant-lacks l =
    map line_view l.lines.items ++ map lack_line (drop l.lack-index l.fn.lacks) ≡ map line_view l.fn.lines.items ++ map lack_line l.fn.lacks
