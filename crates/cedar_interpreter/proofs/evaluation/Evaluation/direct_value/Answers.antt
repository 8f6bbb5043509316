use Rattle.std.proofs.Common.{◌≤◌, arith}
use Rattle.cedar_expressions.specs.View.{view}
use Rattle.cedar_interpreter.specs.Settings.{evaluation_setting, calls_in}
use Rattle.cedar_interpreter.proofs.DirectLaws.{placed_direct}
use Rattle.cedar_interpreter.proofs.evaluation.Evaluation.direct_value.Goals as goal

pub returns-then-is_tried-clause-direct : goal.returns-then-is_tried-clause-direct
returns-then-is_tried-clause-direct g c r k speaks low =
    let enough = c.is_tried.ensures c.if-is_tried.true in
    let some : 5 ≤ k = omega (arith, enough, low) in
    placed_direct (evaluation_setting r c.args.self.now) (calls_in c.args.self.now) k (view c.args.part.now) c.direct_value_unplaced.result _ c.place_value.result (c.direct_value_unplaced.ensures r k speaks some) c.place_value.ensures
