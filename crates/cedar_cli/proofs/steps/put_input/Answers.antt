use Rattle.cedar_extensions.specs.Extensions.{extensions_view, calls_of}
use Rattle.cedar_cli.proofs.Stepping.{input_behind}
use Rattle.cedar_cli.proofs.steps.put_input.Goals as goal

pub returns-clause-put : goal.returns-clause-put
returns-clause-put g c = λ ss are.
    input_behind (extensions_view c.args.extensions.now) (calls_of c.args.extensions.now) ss c.args.inputs.now.items
    c.args.step.now c.in_ok-input.input _ are c.in_ok-input.ensures.step c.in_ok-input.ensures.input
    c.in_ok-push.ensures.items
