use Rattle.cedar_extensions.specs.Extensions.{extensions_view, calls_of}
use Rattle.cedar_service.specs.Asked.{IsUnsaid}
use Rattle.cedar_service.specs.Brought.{laid_or}
use Rattle.cedar_service.specs.Decided.{IsAnswered, IsRefusalOf, IsAuthorizedOver, said, not_said}
use Rattle.cedar_service.specs.Engines.{entities_of}
use Rattle.cedar_service.proofs.Composed.{of_ok}
use Rattle.cedar_service.proofs.Responding.{refused_as}
use Rattle.cedar_service.proofs.deciding.authorize_over.Goals as goal

pub returns-in-Ok : goal.returns-in-Ok
returns-in-Ok g c =
    let x = c.args.extensions.now in
    let e = c.args.engine.now in
    let s = laid_or (entities_of e) c.args.laid in
    of_ok (IsAnswered (extensions_view x) (calls_of x) e s c.in-Ok.request)
    (IsAuthorizedOver (extensions_view x) (calls_of x) e s c.args.text.now)
    (λ o h. said c.in-Ok.request c.in-Ok.ensures.said h) c.answer_laid.result c.answer_laid.ensures

pub returns-in-Err : goal.returns-in-Err
returns-in-Err g c =
    let x = c.args.extensions.now in
    let e = c.args.engine.now in
    let s = laid_or (entities_of e) c.args.laid in
    of_ok (IsRefusalOf c.in-Err.refusal) (IsAuthorizedOver (extensions_view x) (calls_of x) e s c.args.text.now)
    (λ o h. not_said (refused_as (IsUnsaid (extensions_view x) (calls_of x) c.args.text.now) c.in-Err.refusal o
    c.in-Err.ensures.refused h)) c.refused.result c.refused.ensures
