use Rattle.std.proofs.Common.{subst}
use Rattle.std.specs.Prelude.{IfSome}
use Rattle.cedar_authorizer.specs.Configured.{configuration}
use Rattle.cedar_authorizer.specs.Steps.{response_said, step_answer, step_by, IsStep}
use Rattle.cedar_cli.specs.Inputs.{IsMemory}
use Rattle.cedar_cli.proofs.Halting.{refusal_is}
use Rattle.cedar_cli.proofs.Reasoned.{because}
use Rattle.cedar_cli.proofs.steps.take_over.Goals as goal

pub returns-in-Err-clause-refused : goal.returns-in-Err-clause-refused
returns-in-Err-clause-refused g c =
    let conf = configuration c.args.authorizer.now in
    let step = step_by c.args.values.now c.args.store.now.entities in
    let old = response_said c.args.response.now in
    let told = subst (λ r. IfSome (step_answer r) (IsStep conf step old)) c.in-Err.is c.reauthorize.ensures.step in
    because (¬ IsMemory c.in-Err.error) _ (refusal_is (IsStep conf step old) c.in-Err.error told c.in-Err.ensures.memory)
    c.not_taken.result c.not_taken.ensures
