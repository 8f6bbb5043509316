use Rattle.std.proofs.Common.{◌≡◌, Ok, Err, ap, subst}
use Rattle.cedar_expressions.specs.View.{view}
use Rattle.cedar_model.specs.Terms.{Term}
use Rattle.cedar_extensions.specs.Extensions.{extensions_view, calls_of}
use Rattle.cedar_requests.specs.Creations.{IsCreated}
use Rattle.cedar_restricted.specs.Views.{restricted_term, borrowed_term}
use Rattle.cedar_service.specs.Asked.{levels, IsNoContextOf, IsOfCreation}
use Rattle.cedar_service.specs.Faults.{IsFaultBelow}
use Rattle.cedar_service.proofs.Bare.{uncreated}
use Rattle.cedar_service.proofs.Composed.{because, both}
use Rattle.cedar_service.proofs.contexts.evaluate.Goals as goal

pub returns-in-Ok-clause-made : goal.returns-in-Ok-clause-made
returns-in-Ok-clause-made g c =
    let x = c.args.extensions.now in
    let same : borrowed_term c.as_borrowed.result ≡ restricted_term c.args.expr.now = ap view c.as_borrowed.ensures in
    subst (λ (t : Term). IsCreated (extensions_view x) (calls_of x) levels t (Ok c.in-Ok.context)) same
    c.in-Ok.ensures.created

pub returns-in-Err-clause-refused : goal.returns-in-Err-clause-refused
returns-in-Err-clause-refused g c =
    let x = c.args.extensions.now in
    let e = c.in-Err.error in
    let t = restricted_term c.args.expr.now in
    let same : borrowed_term c.as_borrowed.result ≡ t = ap view c.as_borrowed.ensures in
    let failed : IsCreated (extensions_view x) (calls_of x) levels t (Err e) =
    subst (λ (u : Term). IsCreated (extensions_view x) (calls_of x) levels u (Err e)) same c.in-Err.ensures.created in
    both (λ _. IsNoContextOf (extensions_view x) (calls_of x) t) (IsFaultBelow c.args.path.now)
    c.refuse_creation-refusal.result
    (because (λ _. IsOfCreation e) (λ _. IsNoContextOf (extensions_view x) (calls_of x) t)
    (λ s h. uncreated (extensions_view x) (calls_of x) t e failed h)
    c.refuse_creation-refusal.result c.refuse_creation-refusal.ensures.creation)
    c.refuse_creation-refusal.ensures.fault
