use Rattle.std.proofs.Common.{rules}
use Rattle.std.proofs.Output.{has_written_append}
use Rattle.cedar_names.specs.Leaves.{type_view}
use Rattle.cedar_names.proofs.Loops.{flat_map_left}
use Rattle.cedar_errors.specs.Texts.{other_text}
use Rattle.cedar_errors.proofs.evaluator.err.evaluation_errors.write_others.Goals as goal

pub others-preserved : goal.others-preserved
others-preserved g c = λ plain.
    let (done, wrote, whole) = c.others.invariant plain in
    let step = c.write_other.ensures wrote.plain (search rules) in
    (_, has_written_append _ _ _ _ _ _ wrote step, rw c.ty-item.is (flat_map_left other_text type_view c.args.others.now c.others.ty-index c.ty-item.result done _ c.others-test.true whole))
