use Rattle.std.proofs.Common.{rules}
use Rattle.std.proofs.Output.{has_written_append}
use Rattle.cedar_names.proofs.Loops.{flat_map_left}
use Rattle.cedar_sql_columns.specs.Paths.{step_view}
use Rattle.cedar_sql_columns.specs.ErrorTexts.{step_text}
use Rattle.cedar_sql_columns.proofs.paths.write_steps.Goals as goal

pub steps-preserved : goal.steps-preserved
steps-preserved g c = λ plain.
    let (done, wrote, whole) = c.steps.invariant plain in
    let step = c.write_step.ensures wrote.plain (search rules) in
    (_, has_written_append _ _ _ _ _ _ wrote step, rw c.step-item.is (flat_map_left step_text step_view c.args.steps.now c.steps.step-index c.step-item.result done _ c.steps-test.true whole))
