use Rattle.std.proofs.Common.{sym, subst}
use Rattle.cedar_extensions.specs.Extensions.{extensions_view, calls_of}
use Rattle.cedar_cli.specs.Inputs.{AreInputs}
use Rattle.cedar_cli.proofs.stages.stages_from.Goals as goal

pub returns-in-Ok-clause-taken : goal.returns-in-Ok-clause-taken
returns-in-Ok-clause-taken g c =
    let x = c.args.extensions.now in
    c.stages_behind-stages.ensures.taken c.args.steps.now
    (subst (AreInputs (extensions_view x) (calls_of x) c.args.steps.now) (sym c.deref.ensures.value)
    c.in-Ok.ensures.read)

pub returns-in-Ok-clause-refused : goal.returns-in-Ok-clause-refused
returns-in-Ok-clause-refused g c =
    let x = c.args.extensions.now in
    c.stages_behind-stages.ensures.refused c.args.steps.now
    (subst (AreInputs (extensions_view x) (calls_of x) c.args.steps.now) (sym c.deref.ensures.value)
    c.in-Ok.ensures.read)
