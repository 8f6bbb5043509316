use Rattle.std.proofs.Common.{subst}
use Rattle.cedar_extensions.specs.Extensions.{extensions_view, calls_of}
use Rattle.cedar_endpoints.specs.Asked.{evaluation_view}
use Rattle.cedar_service.specs.Standard.{standard_extensions}
use Rattle.cedar_service.specs.Decided.{IsDecided, IsDecidedWith}
use Rattle.cedar_service.proofs.Alone.{calls_alone, view_alone}
use Rattle.cedar_service.specs.Ways.{ways_view}
use Rattle.cedar_service.proofs.Composed.{of_ok}
use Rattle.cedar_service.proofs.deciding.decide.Goals as goal

pub returns : goal.returns
returns c =
    let x = c.all_available-extensions.result in
    let none = c.all_available-extensions.ensures.extensions in
    let there = c.all_available-extensions.ensures.standard in
    let e = c.args.engine.now in
    let q = (evaluation_view c.args.question.now) in
    let w = ways_view c.args.ways in
    of_ok (IsDecidedWith (extensions_view x) (calls_of x) e w q) (IsDecided e w q)
    (λ o h.
    subst (λ calls. IsDecidedWith standard_extensions calls e w q o) (calls_alone x none there)
    (subst (λ v. IsDecidedWith v (calls_of x) e w q o) (view_alone x none there) h))
    c.decide_with.result c.decide_with.ensures
