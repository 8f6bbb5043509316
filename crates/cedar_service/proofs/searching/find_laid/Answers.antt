use Rattle.std.proofs.Common.{Option, IfOk, sym, subst}
use Rattle.cedar_extensions.specs.Extensions.{extensions_view, calls_of}
use Rattle.cedar_layers.specs.declared.policies.entities.Entities.{Entities}
use Rattle.cedar_service.specs.Brought.{laid_or}
use Rattle.cedar_service.specs.Engines.{entities_of}
use Rattle.cedar_service.specs.Searched.{IsPageFor}
use Rattle.cedar_service.proofs.searching.find_laid.Goals as goal

pub returns-in-Some : goal.returns-in-Some
returns-in-Some g c =
    let x = c.args.extensions.now in
    let e = c.args.engine.now in
    subst (λ (o : Option Entities). IfOk c.find-finding.result (IsPageFor c.args.bound (extensions_view x) (calls_of x) e (laid_or (entities_of e) o) c.args.pages.part c.args.request c.args.pages.after
    c.args.pages.most))
    (sym c.in-Some.is) c.find-finding.ensures

pub returns-in-None : goal.returns-in-None
returns-in-None g c =
    let x = c.args.extensions.now in
    let e = c.args.engine.now in
    subst (λ (o : Option Entities). IfOk c.find.result (IsPageFor c.args.bound (extensions_view x) (calls_of x) e (laid_or (entities_of e) o) c.args.pages.part c.args.request c.args.pages.after
    c.args.pages.most))
    (sym c.in-None.is)
    (subst (λ (s : Entities). IfOk c.find.result (IsPageFor c.args.bound (extensions_view x) (calls_of x) e s c.args.pages.part c.args.request c.args.pages.after
    c.args.pages.most)) c.entities.ensures c.find.ensures)
