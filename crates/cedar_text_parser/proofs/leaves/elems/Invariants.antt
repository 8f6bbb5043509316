use Rattle.std.proofs.Common.{◌≡◌, map, take}
use Rattle.cedar_names.specs.Leaves.{part_view}
use Rattle.cedar_text_parser.specs.Building.{pattern_part}
use Rattle.cedar_text_parser.proofs.leaves.elems.Given as goal

abbrev pub invariant-loop-n : goal.invariant-loop-n
invariant-loop-n l = map part_view l.elems.items ≡ map pattern_part (take l.n l.parts)
