use Rattle.std.proofs.Common.{sym, subst, Ok}
use Rattle.cedar_model.specs.Failures.{answers}
use Rattle.cedar_values.specs.Residuals.{partial_view}
use Rattle.cedar_interpreter.specs.Continuations.{LeadsIn}
use Rattle.cedar_interpreter.proofs.ContinuationLaws.{value_leads_in}
use Rattle.cedar_interpreter.specs.Elements.{TaskWaits, TaskContinues}
use Rattle.cedar_interpreter.proofs.evaluation.Evaluation.resume_valued.Goals as goal

pub returns-in-Parts-clause-leads : goal.returns-in-Parts-clause-leads
returns-in-Parts-clause-leads g c =
    subst (λ t. LeadsIn c.args.self.now c.args.levels c.args.whole t (answers (partial_view c.args.value.value)) c.after_part.result) (sym c.in-Parts.is) (c.after_part.ensures.leads c.args.levels)

pub returns-in-Other-clause-leads : goal.returns-in-Other-clause-leads
returns-in-Other-clause-leads g c =
    subst (λ t. LeadsIn c.args.self.now c.args.levels c.args.whole t (answers (partial_view c.args.value.value)) c.resume_pending.result) (sym c.in-Other.is)
    (value_leads_in c.args.self.now c.args.levels c.args.whole c.in-Other.pending (partial_view c.args.value.value) c.resume_pending.result c.resume_pending.ensures)

pub returns-in-Parts-clause-elements : goal.returns-in-Parts-clause-elements
returns-in-Parts-clause-elements g c =
    subst (λ t. TaskContinues t (Ok c.args.value) c.after_part.result) (sym c.in-Parts.is) c.after_part.ensures.elements

pub returns-in-Other-clause-elements : goal.returns-in-Other-clause-elements
returns-in-Other-clause-elements g c es d waits stands = absurd (subst (λ t. TaskWaits es t d) c.in-Other.is waits)
