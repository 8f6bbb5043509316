use Rattle.std.proofs.Common.{sym, subst, Err}
use Rattle.cedar_model.specs.Failures.{fails}
use Rattle.cedar_frames.specs.declared.machine.Transition.TheVariants.{Done}
use Rattle.cedar_interpreter.specs.declared.stopped.Stopped.TheVariants as stops
use Rattle.cedar_interpreter.specs.Endings.{stopped_failure}
use Rattle.cedar_interpreter.specs.Elements.{TaskContinues}
use Rattle.cedar_interpreter.specs.Continuations.{LeadsIn}
use Rattle.cedar_interpreter.proofs.ContinuationLaws.{limit_leads_in, out_of_memory_leads_in}
use Rattle.cedar_interpreter.proofs.evaluation.Evaluation.resume_stopped.Goals as goal

pub returns-in-Memory-clause-leads : goal.returns-in-Memory-clause-leads
returns-in-Memory-clause-leads g c levels =
    out_of_memory_leads_in c.args.self.now levels c.args.whole c.args.task (fails (stopped_failure c.args.stopped))

pub returns-in-Limit-clause-leads : goal.returns-in-Limit-clause-leads
returns-in-Limit-clause-leads g c levels =
    subst (λ s. LeadsIn c.args.self.now levels c.args.whole c.args.task (fails (stopped_failure s)) (Done (Err stops.Limit))) (sym c.in-Limit.is) (limit_leads_in c.args.self.now levels c.args.whole c.args.task)

pub returns-in-Failed-clause-leads : goal.returns-in-Failed-clause-leads
returns-in-Failed-clause-leads g c levels =
    subst (λ s. LeadsIn c.args.self.now levels c.args.whole c.args.task (fails (stopped_failure s)) c.kept_or_failed.result) (sym c.in-Failed.is) (c.kept_or_failed.ensures.leads levels)

pub returns-in-Failed-clause-elements : goal.returns-in-Failed-clause-elements
returns-in-Failed-clause-elements g c =
    subst (λ s. TaskContinues c.args.task (Err s) c.kept_or_failed.result) (sym c.in-Failed.is) c.kept_or_failed.ensures.elements
