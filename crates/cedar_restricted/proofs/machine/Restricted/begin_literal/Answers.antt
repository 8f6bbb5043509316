use Rattle.std.proofs.Common.{◌≡◌, ◌∙◌, subst, IfOk}
use Rattle.cedar_values.specs.Residuals.{partial_loc}
use Rattle.cedar_extensions.specs.Extensions.{extensions_view, calls_of}
use Rattle.cedar_restricted.specs.Laws.{literal_right}
use Rattle.cedar_restricted.proofs.machine.Restricted.begin_literal.Goals as goal

pub returns : goal.returns
returns g c k =
    let x = extensions_view c.args.self.now.extensions.now in
    let calls = calls_of c.args.self.now.extensions.now in
    let r = c.literal_part.result in
    let place = subst (λ l. IfOk r (λ p. partial_loc p ≡ l))
    (c.copied.ensures ∙ c.source_loc.ensures) c.literal_part.ensures.place in
    literal_right x calls k c.args.e.now _ r c.requires c.literal_part.ensures.answer place
