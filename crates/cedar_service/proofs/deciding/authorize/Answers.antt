use Rattle.std.proofs.Common.{subst}
use Rattle.cedar_extensions.specs.Extensions.{extensions_view, calls_of}
use Rattle.cedar_service.specs.Standard.{standard_extensions}
use Rattle.cedar_service.specs.Decided.{IsAuthorized, IsAuthorizedWith}
use Rattle.cedar_service.specs.Ways.{ways_view}
use Rattle.cedar_service.proofs.Alone.{calls_alone, view_alone}
use Rattle.cedar_service.proofs.Composed.{of_ok}
use Rattle.cedar_service.proofs.deciding.authorize.Goals as goal

pub returns : goal.returns
returns c =
    let x = c.all_available-extensions.result in
    let none = c.all_available-extensions.ensures.extensions in
    let there = c.all_available-extensions.ensures.standard in
    let e = c.args.engine.now in
    let q = c.args.text.now in
    let w = ways_view c.args.ways in
    of_ok (IsAuthorizedWith (extensions_view x) (calls_of x) e w q) (IsAuthorized e w q)
    (λ o h.
    subst (λ calls. IsAuthorizedWith standard_extensions calls e w q o) (calls_alone x none there)
    (subst (λ v. IsAuthorizedWith v (calls_of x) e w q o) (view_alone x none there) h))
    c.authorize_with.result c.authorize_with.ensures
