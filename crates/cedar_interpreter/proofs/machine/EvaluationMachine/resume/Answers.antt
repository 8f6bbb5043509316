use Rattle.std.proofs.Common.{◌≤◌, suc, arith}
use Rattle.cedar_interpreter.specs.Settings.{Speaks, evaluation_setting, calls_in}
use Rattle.cedar_interpreter.proofs.Laws.{resume_right, left_fewer}
use Rattle.cedar_interpreter.proofs.ElementLaws.{both_resume, continues_standing}
use Rattle.cedar_interpreter.proofs.machine.EvaluationMachine.resume.Goals as goal

pub returns-clause-right : goal.returns-clause-right
returns-clause-right g c k t d is waits right =
    let s = c.args.self.now in
    let n = c.resume_task.result in
    let low : c.args.levels ≤ suc k = omega (arith, is) in
    both_resume (λ r. Speaks r s) (λ r. evaluation_setting r s) (calls_in s) k t n
    (resume_right (λ r. Speaks r s) (λ r. evaluation_setting r s) (calls_in s) k c.args.frame t d c.args.answer n waits.0 right.0
    (λ r speaks. c.resume_task.ensures.leads.0 r k speaks low) c.resume_task.ensures.leads.1)
    (continues_standing (λ r. Speaks r s) (λ r. evaluation_setting r s) (calls_in s) k c.args.frame t d c.args.answer n waits right c.resume_task.ensures.elements)

pub returns-clause-fewer : goal.returns-clause-fewer
returns-clause-fewer g c = left_fewer c.args.frame c.resume_task.result c.resume_task.ensures.leads.2
