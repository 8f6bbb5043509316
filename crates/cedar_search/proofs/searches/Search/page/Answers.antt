use Rattle.std.proofs.Common.{subst, IfOk}
use Rattle.cedar_search.specs.Questions.{candidates_of}
use Rattle.cedar_search.specs.Pages.{IsPage, page_view}
use Rattle.cedar_search.proofs.Asked.{asking}
use Rattle.cedar_search.proofs.searches.Search.page.Goals as goal

pub returns : goal.returns
returns g c =
    let a = c.args.authorizer.now in
    let s = c.args.self.now in
    subst (λ r. IfOk c.page_of.result (λ p. IsPage (asking a s r) (candidates_of s) c.args.after c.args.count (page_view p)))
    c.in_ok-request.ensures.cases.0 c.page_of.ensures
