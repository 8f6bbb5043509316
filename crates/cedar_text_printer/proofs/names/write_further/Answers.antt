use Rattle.std.proofs.Common.{rules}
use Rattle.std.specs.Rc.{rc_str_bytes}
use Rattle.std.proofs.Output.{has_written_append}
use Rattle.cedar_names.proofs.Loops.{flat_map_left}
use Rattle.cedar_text_printer.specs.Names.{further_text}
use Rattle.cedar_text_printer.proofs.names.write_further.Goals as goal

pub attrs-preserved : goal.attrs-preserved
attrs-preserved g c = λ plain.
    let (done, wrote, whole) = c.attrs.invariant plain in
    let step = c.write_one_further.ensures wrote.plain (search rules) in
    (_, has_written_append _ _ _ _ _ _ wrote step, rw c.attr-item.is (flat_map_left further_text rc_str_bytes c.args.attrs.now c.attrs.attr-index c.attr-item.result done _ c.attrs-test.true whole))
