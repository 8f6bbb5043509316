use Rattle.cedar_endpoints.specs.Served.{IsResponded, IsResponseTo}
use Rattle.cedar_endpoints.proofs.Texts.{of_ok}
use Rattle.cedar_endpoints.proofs.authorized.response_to.Goals as goal

pub returns : goal.returns
returns g c =
    let o = c.in_ok-outcome.outcome in
    of_ok (IsResponded o) (IsResponseTo (g.D.Decider.authorizes c.args.decider.now) c.args.text.now)
    (λ r h. (o, c.in_ok-outcome.ensures, h)) c.respond_with.result c.respond_with.ensures
