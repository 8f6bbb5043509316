use Rattle.std.proofs.Common.{subst}
use Rattle.cedar_layers.specs.declared.policies.entities.Entities.{Entities}
use Rattle.cedar_extensions.specs.Extensions.{extensions_view, calls_of}
use Rattle.cedar_endpoints.specs.Asked.{evaluation_view}
use Rattle.cedar_service.specs.Brought.{laid_or}
use Rattle.cedar_service.specs.Engines.{entities_of}
use Rattle.cedar_service.specs.Faults.{IsToldAs}
use Rattle.cedar_service.specs.Properties.{IsAskedOver, AreUnlaid}
use Rattle.cedar_service.specs.Searched.{IsPageFor, IsUnfound, IsFoundOver, laid, not_laid}
use Rattle.cedar_service.specs.Ways.{ways_view}
use Rattle.cedar_service.proofs.Composed.{of_ok}
use Rattle.cedar_service.proofs.Unfound.{unfound_as}
use Rattle.cedar_service.proofs.searching.find_over.Goals as goal

pub returns-in-Ok : goal.returns-in-Ok
returns-in-Ok g c =
    let x = c.args.extensions.now in
    let e = c.args.engine.now in
    let p = c.args.pages in
    let s = laid_or (entities_of e) c.in-Ok.laid in
    of_ok (IsPageFor (ways_view c.args.ways).bounds.candidates (extensions_view x) (calls_of x) e s p.part c.args.request p.after p.most)
    (IsFoundOver (extensions_view x) (calls_of x) e (ways_view c.args.ways) (evaluation_view c.args.sample.now) p.part
    c.args.request p.after p.most) (λ f h. laid s
    (subst (λ (b : Entities). IsAskedOver (extensions_view x) (calls_of x) (ways_view c.args.ways) b (evaluation_view c.args.sample.now)
    (laid_or b c.in-Ok.laid)) c.entities.ensures c.in-Ok.ensures.laid) h) c.find_laid.result c.find_laid.ensures

pub returns-in-Err : goal.returns-in-Err
returns-in-Err g c =
    let x = c.args.extensions.now in
    let e = c.args.engine.now in
    let p = c.args.pages in
    let w = ways_view c.args.ways in
    let q = evaluation_view c.args.sample.now in
    of_ok (IsUnfound c.in-Err.refusal)
    (IsFoundOver (extensions_view x) (calls_of x) e w q p.part c.args.request p.after p.most)
    (λ f h. not_laid (unfound_as (AreUnlaid (extensions_view x) (calls_of x) w (entities_of e) q) c.in-Err.refusal f
    (subst (λ (b : Entities). IsToldAs (AreUnlaid (extensions_view x) (calls_of x) w b q) c.in-Err.refusal) c.entities.ensures
    c.in-Err.ensures.refused) h)) c.unfound.result c.unfound.ensures
