use Rattle.std.proofs.Common.{sym, subst}
use Rattle.cedar_interpreter.specs.Endings.{ending_answer}
use Rattle.cedar_interpreter.specs.Continuations.{LeadsIn}
use Rattle.cedar_interpreter.specs.Elements.{TaskContinues}
use Rattle.cedar_interpreter.proofs.evaluation.Evaluation.resume_task.Goals as goal

pub returns-in-Ok-clause-leads : goal.returns-in-Ok-clause-leads
returns-in-Ok-clause-leads g c =
    subst (λ o. LeadsIn c.args.self.now c.args.levels c.args.whole c.args.task (ending_answer o) c.resume_valued.result) (sym c.in-Ok.is) c.resume_valued.ensures.leads

pub returns-in-Err-clause-leads : goal.returns-in-Err-clause-leads
returns-in-Err-clause-leads g c =
    subst (λ o. LeadsIn c.args.self.now c.args.levels c.args.whole c.args.task (ending_answer o) c.resume_stopped.result) (sym c.in-Err.is) (c.resume_stopped.ensures.leads c.args.levels)

pub returns-in-Ok-clause-elements : goal.returns-in-Ok-clause-elements
returns-in-Ok-clause-elements g c =
    subst (λ o. TaskContinues c.args.task o c.resume_valued.result) (sym c.in-Ok.is) c.resume_valued.ensures.elements

pub returns-in-Err-clause-elements : goal.returns-in-Err-clause-elements
returns-in-Err-clause-elements g c =
    subst (λ o. TaskContinues c.args.task o c.resume_stopped.result) (sym c.in-Err.is) c.resume_stopped.ensures.elements
