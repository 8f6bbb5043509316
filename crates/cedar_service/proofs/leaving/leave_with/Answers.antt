use Rattle.cedar_extensions.specs.Extensions.{extensions_view, calls_of}
use Rattle.cedar_endpoints.specs.Partials.{partial_view}
use Rattle.cedar_service.specs.Left.{IsUnaskedPartly, IsUntoldFor, IsLeftOver, IsLeftWith, left, not_asked_partly}
use Rattle.cedar_service.specs.Ways.{ways_view}
use Rattle.cedar_service.proofs.Composed.{of_ok}
use Rattle.cedar_service.proofs.Untold.{untold_as}
use Rattle.cedar_service.proofs.leaving.leave_with.Goals as goal

pub returns-in-Ok : goal.returns-in-Ok
returns-in-Ok g c =
    let x = c.args.extensions.now in
    let e = c.args.engine.now in
    let w = ways_view c.args.ways in
    let t = c.args.text.now in
    of_ok (IsLeftOver (extensions_view x) (calls_of x) e w t c.in-Ok.request)
    (IsLeftWith (extensions_view x) (calls_of x) e w (partial_view c.args.question.now) t)
    (λ o h. left c.in-Ok.request c.in-Ok.ensures.asked h) c.leave_over.result c.leave_over.ensures

pub returns-in-Err : goal.returns-in-Err
returns-in-Err g c =
    let x = c.args.extensions.now in
    let e = c.args.engine.now in
    let w = ways_view c.args.ways in
    let q = partial_view c.args.question.now in
    of_ok (IsUntoldFor c.in-Err.refusal) (IsLeftWith (extensions_view x) (calls_of x) e w q c.args.text.now)
    (λ o h. not_asked_partly (untold_as (IsUnaskedPartly (extensions_view x) (calls_of x) q) c.in-Err.refusal o
    c.in-Err.ensures.refused h)) c.untold.result c.untold.ensures
