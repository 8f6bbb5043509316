use Rattle.std.proofs.Common.{subst}
use Rattle.cedar_extensions.specs.Extensions.{extensions_view, calls_of}
use Rattle.cedar_endpoints.specs.Partials.{partial_view}
use Rattle.cedar_service.specs.Standard.{standard_extensions}
use Rattle.cedar_service.specs.Left.{IsLeft, IsLeftWith}
use Rattle.cedar_service.specs.Ways.{ways_view}
use Rattle.cedar_service.proofs.Alone.{calls_alone, view_alone}
use Rattle.cedar_service.proofs.Composed.{of_ok}
use Rattle.cedar_service.proofs.leaving.leave.Goals as goal

pub returns : goal.returns
returns c =
    let x = c.all_available-extensions.result in
    let none = c.all_available-extensions.ensures.extensions in
    let there = c.all_available-extensions.ensures.standard in
    let e = c.args.engine.now in
    let q = (partial_view c.args.question.now) in
    let t = c.args.text.now in
    let w = ways_view c.args.ways in
    of_ok (IsLeftWith (extensions_view x) (calls_of x) e w q t) (IsLeft e w q t)
    (λ o h.
    subst (λ calls. IsLeftWith standard_extensions calls e w q t o) (calls_alone x none there)
    (subst (λ v. IsLeftWith v (calls_of x) e w q t o) (view_alone x none there) h))
    c.leave_with.result c.leave_with.ensures
