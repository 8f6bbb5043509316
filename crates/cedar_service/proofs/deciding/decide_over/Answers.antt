use Rattle.std.proofs.Common.{subst}
use Rattle.cedar_layers.specs.declared.policies.entities.Entities.{Entities}
use Rattle.cedar_extensions.specs.Extensions.{extensions_view, calls_of}
use Rattle.cedar_endpoints.specs.Asked.{evaluation_view}
use Rattle.cedar_service.specs.Brought.{laid_or}
use Rattle.cedar_service.specs.Decided.{IsAnswered, IsRefusalOf, IsDecidedOver, laid, not_laid}
use Rattle.cedar_service.specs.Engines.{entities_of}
use Rattle.cedar_service.specs.Faults.{IsToldAs}
use Rattle.cedar_service.specs.Properties.{IsAskedOver, AreUnlaid}
use Rattle.cedar_service.specs.Ways.{ways_view}
use Rattle.cedar_service.proofs.Composed.{of_ok}
use Rattle.cedar_service.proofs.Responding.{refused_as}
use Rattle.cedar_service.proofs.deciding.decide_over.Goals as goal

pub returns-in-Ok : goal.returns-in-Ok
returns-in-Ok g c =
    let x = c.args.extensions.now in
    let e = c.args.engine.now in
    let w = ways_view c.args.ways in
    let q = evaluation_view c.args.question.now in
    let s = laid_or (entities_of e) c.in-Ok.laid in
    of_ok (IsAnswered (extensions_view x) (calls_of x) e s c.args.request)
    (IsDecidedOver (extensions_view x) (calls_of x) e w q c.args.request)
    (λ o h. laid s
    (subst (λ (b : Entities). IsAskedOver (extensions_view x) (calls_of x) w b q (laid_or b c.in-Ok.laid)) c.entities.ensures
    c.in-Ok.ensures.laid) h) c.answer_laid.result c.answer_laid.ensures

pub returns-in-Err : goal.returns-in-Err
returns-in-Err g c =
    let x = c.args.extensions.now in
    let e = c.args.engine.now in
    let w = ways_view c.args.ways in
    let q = evaluation_view c.args.question.now in
    of_ok (IsRefusalOf c.in-Err.refusal) (IsDecidedOver (extensions_view x) (calls_of x) e w q c.args.request)
    (λ o h. not_laid (refused_as (AreUnlaid (extensions_view x) (calls_of x) w (entities_of e) q) c.in-Err.refusal o
    (subst (λ (b : Entities). IsToldAs (AreUnlaid (extensions_view x) (calls_of x) w b q) c.in-Err.refusal) c.entities.ensures
    c.in-Err.ensures.refused) h)) c.refused.result c.refused.ensures
