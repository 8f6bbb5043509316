use Rattle.cedar_extensions.specs.Extensions.{extensions_view, calls_of}
use Rattle.cedar_restricted.specs.Laws.{unknown_right}
use Rattle.cedar_restricted.proofs.machine.Restricted.begin_unknown.Goals as goal

pub returns : goal.returns
returns g c k =
    let x = extensions_view c.args.self.now.extensions.now in
    let calls = calls_of c.args.self.now.extensions.now in unknown_right x calls k c.args.e.now _ _
    c.residual_of.result c.requires c.residual_of.ensures.answer c.residual_of.ensures.place
