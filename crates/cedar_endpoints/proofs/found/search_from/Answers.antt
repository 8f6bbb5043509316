use Rattle.std.proofs.Common.{subst, IfOk}
use Rattle.cedar_endpoints.specs.Asked.{Text}
use Rattle.cedar_endpoints.specs.Searches.{search_view}
use Rattle.cedar_endpoints.specs.Found.{finder_of, IsListed, IsPageFrom}
use Rattle.cedar_endpoints.proofs.Texts.{of_ok}
use Rattle.cedar_endpoints.proofs.found.search_from.Goals as goal

pub returns : goal.returns
returns g c =
    let d = c.args.decider.now in
    let f = c.in_ok-finding.finding in
    of_ok (IsListed (g.D.Decider.version d) f)
    (IsPageFrom (finder_of (g.D.Decider.finds d) (g.D.Decider.version d) (g.D.Decider.count d) c.args.page)
    (search_view c.args.search.now) c.args.after)
    (λ r h. (f, c.in_ok-finding.ensures, h)) c.listed.result
    (subst (λ (v : Text). IfOk c.listed.result (IsListed v f)) c.version_text.ensures c.listed.ensures)
