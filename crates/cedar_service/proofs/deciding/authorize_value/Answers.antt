use Rattle.std.proofs.Common.{codes}
use Rattle.json.specs.Find.{get}
use Rattle.json.specs.Value.{value_view}
use Rattle.cedar_extensions.specs.Extensions.{extensions_view, calls_of}
use Rattle.cedar_service.specs.Brought.{laid_or, IsUnbroughtFor, IsUnbroughtBy, IsExcess, IsExcessBy}
use Rattle.cedar_service.specs.Decided.{IsAuthorizedOver, IsAuthorizedWith, IsUnbroughtOutcome, brought, not_brought, too_large}
use Rattle.cedar_service.specs.Engines.{entities_of}
use Rattle.cedar_service.specs.Ways.{ways_view}
use Rattle.cedar_service.proofs.Composed.{of_ok}
use Rattle.cedar_service.proofs.Over.{brought_of_document, unbrought_of_document, excess_of_document}
use Rattle.cedar_service.proofs.Taken.{so_because, unbrought_outcome}
use Rattle.cedar_service.proofs.deciding.authorize_value.Goals as goal

pub brought_for-requires : goal.brought_for-requires
brought_for-requires g c = c.requires.read.writable

pub returns-in-Ok : goal.returns-in-Ok
returns-in-Ok g c =
    let x = c.args.extensions.now in
    let e = c.args.engine.now in
    let t = c.args.text.now in
    let w = ways_view c.args.ways in
    let s = laid_or (entities_of e) c.in-Ok.brought in
    of_ok (IsAuthorizedOver (extensions_view x) (calls_of x) e s t)
    (IsAuthorizedWith (extensions_view x) (calls_of x) e w t)
    (λ o h. brought s (brought_of_document (extensions_view x) (calls_of x) w (entities_of e) t (value_view c.args.value) s
    c.requires.read c.in-Ok.ensures.brought) h) c.authorize_over.result c.authorize_over.ensures

pub returns-in-Err : goal.returns-in-Err
returns-in-Err g c =
    let x = c.args.extensions.now in
    let e = c.args.engine.now in
    let t = c.args.text.now in
    let w = ways_view c.args.ways in
    let j = value_view c.args.value in
    let u = c.in-Err.unbrought in
    let Un = IsUnbroughtFor w.entities w.bounds (extensions_view x) (calls_of x) (entities_of e) (get (codes "entities") j) in
    let Ex = IsExcess w.entities w.bounds (get (codes "entities") j) in
    let By = IsUnbroughtBy (extensions_view x) (calls_of x) w (entities_of e) t in
    of_ok (IsUnbroughtOutcome u) (IsAuthorizedWith (extensions_view x) (calls_of x) e w t)
    (unbrought_outcome By (IsExcessBy w t) (IsAuthorizedWith (extensions_view x) (calls_of x) e w t)
    (λ o h. not_brought h) (λ o h. too_large h) u
    (so_because Un Ex By (IsExcessBy w t)
    (λ v k. unbrought_of_document (extensions_view x) (calls_of x) w (entities_of e) t j v c.requires.read k)
    (λ v k. excess_of_document w t j v c.requires.read k) u c.in-Err.ensures.refused))
    c.unbrought_outcome.result c.unbrought_outcome.ensures
