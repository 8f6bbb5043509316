use Rattle.std.proofs.Common.{◌∙◌, subst, sym}
use Rattle.cedar_extensions.specs.Extensions.{extensions_view, calls_of}
use Rattle.cedar_restricted.specs.Frames.{StartsParts}
use Rattle.cedar_restricted.specs.Laws.{begins_right}
use Rattle.cedar_restricted.proofs.machine.Restricted.begin_call.Goals as goal

pub returns : goal.returns
returns g c k =
    let x = extensions_view c.args.self.now.extensions.now in
    let calls = calls_of c.args.self.now.extensions.now in
    let begun = subst (λ t. StartsParts x calls t c.copied.result c.call.result) (sym c.requires) c.call.ensures in
    begins_right x calls k c.args.e.now c.copied.result c.call.result (c.copied.ensures ∙ c.source_loc.ensures) begun
