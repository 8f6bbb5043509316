use Rattle.cedar_extensions.specs.Extensions.{extensions_view, calls_of}
use Rattle.cedar_restricted.specs.Laws.{not_restricted_right}
use Rattle.cedar_restricted.proofs.machine.Restricted.refuse_kind.Goals as goal

pub returns-in-Ok : goal.returns-in-Ok
returns-in-Ok g c k =
    let x = extensions_view c.args.self.now.extensions.now in
    let calls = calls_of c.args.self.now.extensions.now in not_restricted_right x calls k c.args.e.now _ c.requires

pub returns-in-Err : goal.returns-in-Err
returns-in-Err g c k =
    let x = extensions_view c.args.self.now.extensions.now in
    let calls = calls_of c.args.self.now.extensions.now in not_restricted_right x calls k c.args.e.now _ c.requires
