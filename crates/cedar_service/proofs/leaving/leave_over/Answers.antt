use Rattle.cedar_extensions.specs.Extensions.{extensions_view, calls_of}
use Rattle.cedar_service.specs.Brought.{laid_or, IsUnbroughtBy, IsExcessBy}
use Rattle.cedar_service.specs.Engines.{entities_of}
use Rattle.cedar_service.specs.Left.{IsUnbroughtRemainder, LeavesFor, IsLeftOver, brought, not_brought, too_large}
use Rattle.cedar_service.specs.Ways.{ways_view}
use Rattle.cedar_service.proofs.Composed.{of_ok}
use Rattle.cedar_service.proofs.Taken.{unbrought_remainder}
use Rattle.cedar_service.proofs.leaving.leave_over.Goals as goal

pub returns-in-Ok : goal.returns-in-Ok
returns-in-Ok g c =
    let x = c.args.extensions.now in
    let e = c.args.engine.now in
    let t = c.args.text.now in
    let w = ways_view c.args.ways in
    let s = laid_or (entities_of e) c.in-Ok.brought in
    of_ok (LeavesFor (extensions_view x) (calls_of x) e s c.args.request)
    (IsLeftOver (extensions_view x) (calls_of x) e w t c.args.request)
    (λ o h. brought s c.in-Ok.ensures.brought h) c.leave_laid.result c.leave_laid.ensures

pub returns-in-Err : goal.returns-in-Err
returns-in-Err g c =
    let x = c.args.extensions.now in
    let e = c.args.engine.now in
    let t = c.args.text.now in
    let w = ways_view c.args.ways in
    let u = c.in-Err.unbrought in
    of_ok (IsUnbroughtRemainder u) (IsLeftOver (extensions_view x) (calls_of x) e w t c.args.request)
    (unbrought_remainder (IsUnbroughtBy (extensions_view x) (calls_of x) w (entities_of e) t) (IsExcessBy w t)
    (IsLeftOver (extensions_view x) (calls_of x) e w t c.args.request)
    (λ o h. not_brought h) (λ o h. too_large h) u c.in-Err.ensures.refused)
    c.unbrought_remainder.result c.unbrought_remainder.ensures
