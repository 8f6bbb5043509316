use Rattle.std.proofs.Common.{subst}
use Rattle.cedar_extensions.specs.Extensions.{extensions_view, calls_of}
use Rattle.cedar_endpoints.specs.Searches.{search_view}
use Rattle.cedar_service.specs.Standard.{standard_extensions}
use Rattle.cedar_service.specs.Searched.{IsFound, IsFoundWith}
use Rattle.cedar_service.proofs.Alone.{calls_alone, view_alone}
use Rattle.cedar_service.specs.Ways.{ways_view}
use Rattle.cedar_service.proofs.Composed.{of_ok}
use Rattle.cedar_service.proofs.searching.search.Goals as goal

pub returns : goal.returns
returns c =
    let x = c.all_available-extensions.result in
    let none = c.all_available-extensions.ensures.extensions in
    let there = c.all_available-extensions.ensures.standard in
    let e = c.args.engine.now in
    let q = search_view c.args.question.now in
    let w = ways_view c.args.ways in
    let after = c.args.after in
    let most = c.args.most in
    of_ok (IsFoundWith (extensions_view x) (calls_of x) e w q after most) (IsFound e w q after most)
    (λ f h.
    subst (λ calls. IsFoundWith standard_extensions calls e w q after most f) (calls_alone x none there)
    (subst (λ v. IsFoundWith v (calls_of x) e w q after most f) (view_alone x none there) h))
    c.search_with.result c.search_with.ensures
