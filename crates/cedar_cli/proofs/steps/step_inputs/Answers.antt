use Rattle.std.proofs.Common.{drop}
use Rattle.std.proofs.lemmas.List.{drop_all}
use Rattle.cedar_extensions.specs.Extensions.{extensions_view, calls_of}
use Rattle.cedar_cli.specs.Reasons.{IsToldFor}
use Rattle.cedar_cli.specs.Stopped.{IsOneUnread}
use Rattle.cedar_cli.proofs.Composed.{handed_up}
use Rattle.cedar_cli.proofs.Halting.{one_at}
use Rattle.cedar_cli.proofs.Reasoned.{because}
use Rattle.cedar_cli.proofs.Stepping.{no_inputs_yet, input_at, inputs_of_all}
use Rattle.cedar_cli.proofs.steps.step_inputs.Goals as goal

pub steps-init : goal.steps-init
steps-init g c = no_inputs_yet (extensions_view c.args.extensions.now) (calls_of c.args.extensions.now) c.args.steps.now
    c.new-inputs.result.items c.new-inputs.ensures.items

pub steps-preserved : goal.steps-preserved
steps-preserved g c =
    input_at (extensions_view c.args.extensions.now) (calls_of c.args.extensions.now) c.args.steps.now c.steps.step-index
    _ c.steps.inputs.items c.put_input.new.inputs.items c.steps-test.true c.steps.invariant c.in_ok-put_input.ensures.put

pub returns-clause-read : goal.returns-clause-read
returns-clause-read g c = inputs_of_all (extensions_view c.args.extensions.now) (calls_of c.args.extensions.now) c.args.steps.now
    (drop c.steps.step-index c.args.steps.now) c.steps.inputs.items
    (drop_all c.steps.step-index c.args.steps.now c.steps-test.false) c.steps.invariant

pub returns-in_err-put_input-clause-refused : goal.returns-in_err-put_input-clause-refused
returns-in_err-put_input-clause-refused g c =
    let x = extensions_view c.args.extensions.now in
    let calls = calls_of c.args.extensions.now in
    let items = c.args.steps.now in
    handed_up c.from_residual.result _ (IsToldFor (IsOneUnread x calls items))
    c.from_residual.ensures.1
    (because _ (IsOneUnread x calls items) (one_at x calls c.steps.step-index items _ c.steps-test.true)
    c.in_err-put_input.field-0.0 c.in_err-put_input.ensures.refused)
