use Rattle.cedar_extensions.specs.Extensions.{extensions_view, calls_of}
use Rattle.cedar_cli.specs.Stopped.{AreValuesUnread}
use Rattle.cedar_cli.proofs.Composed.{of_err}
use Rattle.cedar_cli.proofs.Halting.{not_known}
use Rattle.cedar_cli.proofs.Reasoned.{because}
use Rattle.cedar_cli.proofs.Stepping.{values_said}
use Rattle.cedar_cli.proofs.steps.step_values.Goals as goal

pub returns-clause-said : goal.returns-clause-said
returns-clause-said g c =
    values_said (extensions_view c.args.extensions.now) (calls_of c.args.extensions.now) c.args.source.text.now
    c.in_ok-context.context c.in_ok-context.ensures.said c.known_values.result c.known_values.ensures.same
    c.known_values.ensures.known

pub returns-clause-refused : goal.returns-clause-refused
returns-clause-refused g c =
    let x = c.args.extensions.now in
    of_err _ _
    (λ r. because _ (AreValuesUnread (extensions_view x) (calls_of x) c.args.source)
    (not_known (extensions_view x) (calls_of x) c.args.source c.in_ok-context.context c.in_ok-context.ensures.said) r)
    c.known_values.result c.known_values.ensures.refused
