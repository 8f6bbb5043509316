use Rattle.std.proofs.Common.{◌≡◌, ◌++◌, map, drop}
use Rattle.cedar_explain_printer.specs.Lines.{line_view, part_line}
use Rattle.cedar_explain_printer.proofs.policies.add_parts.Given as goal

-- those that are put, and those that are left
abbrev pub invariant-parts : goal.invariant-parts
invariant-parts l =
    map line_view l.lines.items ++ map (part_line l.fn.has_values) (drop l.part-index l.fn.parts)
    ≡ map line_view l.fn.lines.items ++ map (part_line l.fn.has_values) l.fn.parts
