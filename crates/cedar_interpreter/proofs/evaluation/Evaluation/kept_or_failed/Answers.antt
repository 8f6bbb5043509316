use Rattle.std.proofs.Common.{sym, subst}
use Rattle.cedar_model.specs.Failures.{fails}
use Rattle.cedar_expressions.specs.View.{expr_loc}
use Rattle.cedar_errors.specs.Failures.{failure_of}
use Rattle.cedar_interpreter.specs.Elements.{TaskWaits}
use Rattle.cedar_interpreter.proofs.ElementLaws.{failed_next}
use Rattle.cedar_interpreter.proofs.KeptLaws.{ordinary_is_not_out_of_memory}
use Rattle.cedar_interpreter.specs.Continuations.{LeadsIn}
use Rattle.cedar_interpreter.proofs.ContinuationLaws.{failure_leads_in, parts_failure_in}
use Rattle.cedar_interpreter.proofs.evaluation.Evaluation.kept_or_failed.Goals as goal

pub returns-in-Parts-clause-leads : goal.returns-in-Parts-clause-leads
returns-in-Parts-clause-leads g c levels =
    let e = failure_of c.args.failed.value.error in
    subst (λ t. LeadsIn c.args.self.now levels c.args.whole t (fails e) c.pass_failure_on.result) (sym c.in-Parts.is)
    (parts_failure_in c.args.self.now levels c.args.whole c.in-Parts.frame e c.pass_failure_on.result c.pass_failure_on.ensures)

pub returns-in-Other-clause-leads : goal.returns-in-Other-clause-leads
returns-in-Other-clause-leads g c levels =
    let e = failure_of c.args.failed.value.error in
    subst (λ t. LeadsIn c.args.self.now levels c.args.whole t (fails e) c.resume_failed.result) (sym c.in-Other.is)
    (failure_leads_in c.args.self.now levels c.args.whole c.in-Other.pending e c.resume_failed.result
    (ordinary_is_not_out_of_memory c.args.failed.value.error c.args.failed.value.ordinary) c.resume_failed.ensures)

pub returns-in-Parts-clause-elements : goal.returns-in-Parts-clause-elements
returns-in-Parts-clause-elements g c es d waits stands =
    failed_next es (expr_loc c.args.whole.value) (failure_of c.args.failed.value.error) c.pass_failure_on.result c.pass_failure_on.ensures

pub returns-in-Other-clause-elements : goal.returns-in-Other-clause-elements
returns-in-Other-clause-elements g c es d waits stands = absurd (subst (λ t. TaskWaits es t d) c.in-Other.is waits)
