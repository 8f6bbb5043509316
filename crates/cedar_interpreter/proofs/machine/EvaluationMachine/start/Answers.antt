use Rattle.std.proofs.Common.{◌≤◌, suc, refl, subst, arith}
use Rattle.cedar_expressions.specs.View.{view, expr_loc}
use Rattle.cedar_interpreter.specs.Settings.{Speaks, evaluation_setting, calls_in}
use Rattle.cedar_interpreter.specs.Continuations.{StartsIn}
use Rattle.cedar_interpreter.proofs.Laws.{start_right, below_any}
use Rattle.cedar_interpreter.specs.Elements.{NextStands}
use Rattle.cedar_interpreter.proofs.ElementLaws.{both_resume}
use Rattle.cedar_interpreter.proofs.machine.EvaluationMachine.start.Goals as goal

pub returns-clause-right : goal.returns-clause-right
returns-clause-right g c k is =
    let s = c.args.self.now in
    let p = c.args.part in
    let n = c.begin.result in
    let low : c.args.levels ≤ suc k = omega (arith, is) in
    let starts : StartsIn s c.args.levels p (view p.value) n = subst (λ e. StartsIn s c.args.levels p (view e) n) c.deref.ensures c.begin.ensures.starts in
    both_resume (λ r. Speaks r s) (λ r. evaluation_setting r s) (calls_in s) k p n
    (start_right (λ r. Speaks r s) (λ r. evaluation_setting r s) (calls_in s) k p (expr_loc p.value) n (λ r speaks. starts.0 r k speaks low) starts.1 refl)
    (subst (λ e. NextStands e n) c.deref.ensures c.begin.ensures.elements)

pub returns-clause-below : goal.returns-clause-below
returns-clause-below g c = below_any c.begin.result
