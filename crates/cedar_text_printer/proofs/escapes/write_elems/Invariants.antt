use Rattle.std.proofs.Common.{◌≡◌, ℕ, List, ◌++◌, map, flat_map, drop}
use Rattle.std.specs.Fmt.{HasWritten, IsPlainFormatter}
use Rattle.cedar_names.specs.Leaves.{part_view}
use Rattle.cedar_text_printer.specs.Escapes.{pattern_part_text}
use Rattle.cedar_text_printer.proofs.escapes.write_elems.Given as goal

abbrev pub invariant-parts : goal.invariant-parts
invariant-parts g l =
    IsPlainFormatter l.initial.f
    → (done : List ℕ) × HasWritten g.W.Write.write_str_gives l.initial.f done l.f
    × (done ++ flat_map pattern_part_text (map part_view (drop l.part-index l.parts)) ≡ flat_map pattern_part_text (map part_view l.parts))
