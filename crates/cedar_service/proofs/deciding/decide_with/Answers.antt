use Rattle.cedar_extensions.specs.Extensions.{extensions_view, calls_of}
use Rattle.cedar_endpoints.specs.Asked.{evaluation_view}
use Rattle.cedar_service.specs.Asked.{IsUnasked}
use Rattle.cedar_service.specs.Decided.{IsDecidedOver, IsRefusalOf, IsDecidedWith, asked, not_asked}
use Rattle.cedar_service.specs.Ways.{ways_view}
use Rattle.cedar_service.proofs.Composed.{of_ok}
use Rattle.cedar_service.proofs.Responding.{refused_as}
use Rattle.cedar_service.proofs.deciding.decide_with.Goals as goal

pub returns-in-Ok : goal.returns-in-Ok
returns-in-Ok g c =
    let x = c.args.extensions.now in
    let e = c.args.engine.now in
    let w = ways_view c.args.ways in
    let q = evaluation_view c.args.question.now in
    of_ok (IsDecidedOver (extensions_view x) (calls_of x) e w q c.in-Ok.request)
    (IsDecidedWith (extensions_view x) (calls_of x) e w q)
    (λ o h. asked c.in-Ok.request c.in-Ok.ensures.asked h) c.decide_over.result c.decide_over.ensures

pub returns-in-Err : goal.returns-in-Err
returns-in-Err g c =
    let x = c.args.extensions.now in
    let e = c.args.engine.now in
    let w = ways_view c.args.ways in
    let q = evaluation_view c.args.question.now in
    of_ok (IsRefusalOf c.in-Err.refusal) (IsDecidedWith (extensions_view x) (calls_of x) e w q)
    (λ o h. not_asked (refused_as (IsUnasked (extensions_view x) (calls_of x) q) c.in-Err.refusal o
    c.in-Err.ensures.refused h)) c.refused.result c.refused.ensures
