use Rattle.cedar_text_parser.specs.Building.{no_more}
use Rattle.cedar_text_parser.specs.Refusals.{AreRefused, at_step}
use Rattle.cedar_text_parser.proofs.Kept.{step_made}
use Rattle.cedar_text_parser.proofs.Places.{passed_up}
use Rattle.cedar_text_parser.proofs.builder.build_steps.Goals as goal

pub loop-step-init : goal.loop-step-init
loop-step-init c = rw c.new.ensures.items no_more

pub loop-step-preserved : goal.loop-step-preserved
loop-step-preserved c = step_made _ _ _ c.loop-step-test.true (c.in_ok-take.ensures.ok _ c.loop-step.invariant)

pub returns-in_err-take-clause-err : goal.returns-in_err-take-clause-err
returns-in_err-take-clause-err c =
    passed_up c.from_residual.result _ (AreRefused c.args.source.now c.args.steps.now)
    c.from_residual.ensures.1
    (at_step _ c.loop-step-test.true (c.in_err-take.ensures.err _ c.loop-step.invariant))
