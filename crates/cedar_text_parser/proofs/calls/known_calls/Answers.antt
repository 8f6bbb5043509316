use Rattle.cedar_functions.specs.Functions.{knowledge}
use Rattle.cedar_text_parser.specs.Calls.{AreCallsRefused, at_call}
use Rattle.cedar_text_parser.specs.Reading.{IsPlaceWithin}
use Rattle.cedar_text_parser.proofs.Known.{step_more, call_within}
use Rattle.cedar_text_parser.proofs.Places.{passed_up}
use Rattle.cedar_text_parser.proofs.calls.known_calls.Goals as goal

pub loop-step-preserved : goal.loop-step-preserved
loop-step-preserved c =
    step_more (knowledge c.args.functions.now) c.args.source.now c.args.steps.now c.loop-step.step-index _
    c.loop-step-test.true c.in_ok-known_step.ensures.ok c.loop-step.invariant

pub returns-in_err-known_step-clause-err : goal.returns-in_err-known_step-clause-err
returns-in_err-known_step-clause-err c =
    passed_up c.from_residual.result _
    (AreCallsRefused (knowledge c.args.functions.now) c.args.source.now c.args.steps.now)
    c.from_residual.ensures.1 (at_call _ c.loop-step-test.true c.in_err-known_step.ensures.err)

pub returns-in_err-known_step-clause-placed : goal.returns-in_err-known_step-clause-placed
returns-in_err-known_step-clause-placed c =
    passed_up c.from_residual.result _ (IsPlaceWithin c.args.source.now.text) c.from_residual.ensures.1
    (call_within (knowledge c.args.functions.now) c.args.source.now c.tokens_stand.ensures.cut
    c.tokens_stand.ensures.stand _
    c.in_err-known_step.ensures.err)
