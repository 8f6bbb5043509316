use Rattle.std.proofs.Common.{Ok}
use Rattle.cedar_endpoints.specs.Asked.{evaluation_view}
use Rattle.cedar_endpoints.specs.Replies.{IsOutcome}
use Rattle.cedar_endpoints.specs.Several.{IsDecided}
use Rattle.cedar_endpoints.proofs.Texts.{of_ok}
use Rattle.cedar_endpoints.proofs.evaluations.decide.Goals as goal

pub returns : goal.returns
returns g c =
    let o = c.in_ok-outcome.outcome in
    of_ok (IsOutcome o) (IsDecided (g.D.Decider.decides c.args.decider.now) (Ok (evaluation_view c.args.asked.now)))
    (λ r h. (o, c.in_ok-outcome.ensures, h)) c.reply_of.result c.reply_of.ensures
