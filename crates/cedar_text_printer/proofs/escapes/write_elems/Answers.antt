use Rattle.std.proofs.Common.{rules}
use Rattle.std.proofs.Output.{has_written_append}
use Rattle.cedar_names.specs.Leaves.{part_view}
use Rattle.cedar_names.proofs.Loops.{flat_map_left}
use Rattle.cedar_text_printer.specs.Escapes.{pattern_part_text}
use Rattle.cedar_text_printer.proofs.escapes.write_elems.Goals as goal

pub parts-preserved : goal.parts-preserved
parts-preserved g c = λ plain.
    let (done, wrote, whole) = c.parts.invariant plain in
    let step = c.write_elem.ensures wrote.plain (search rules) in
    (_, has_written_append _ _ _ _ _ _ wrote step, flat_map_left pattern_part_text part_view c.args.parts.now c.parts.part-index _ done _ c.parts-test.true whole)
