use Rattle.std.proofs.Common.{sym, subst}
use Rattle.cedar_extensions.specs.Extensions.{extensions_view, calls_of}
use Rattle.cedar_cli.specs.Inputs.{AreInputs}
use Rattle.cedar_cli.proofs.stages.all_stages.Goals as goal

pub returns-clause-stages : goal.returns-clause-stages
returns-clause-stages g c =
    let x = c.args.extensions.now in
    c.stages_of-stages.ensures.stages c.args.steps.now
    (subst (AreInputs (extensions_view x) (calls_of x) c.args.steps.now) (sym c.deref.ensures.value)
    c.in_ok-inputs.ensures.read)

pub returns-clause-refused : goal.returns-clause-refused
returns-clause-refused g c =
    let x = c.args.extensions.now in
    c.stages_of-stages.ensures.refused c.args.steps.now
    (subst (AreInputs (extensions_view x) (calls_of x) c.args.steps.now) (sym c.deref.ensures.value)
    c.in_ok-inputs.ensures.read)
