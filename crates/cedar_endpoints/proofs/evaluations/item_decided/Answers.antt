use Rattle.std.proofs.Common.{Ok, string_bytes}
use Rattle.cedar_endpoints.specs.Asked.{evaluation_view}
use Rattle.cedar_endpoints.specs.Several.{IsItemOf, IsItemSaid}
use Rattle.cedar_endpoints.proofs.Texts.{of_ok}
use Rattle.cedar_endpoints.proofs.evaluations.item_decided.Goals as goal

pub returns : goal.returns
returns g c =
    let o = c.in_ok-outcome.outcome in
    of_ok (λ a. IsItemOf o a.is_allowed (string_bytes a.text))
    (λ a. IsItemSaid (g.D.Decider.decides c.args.decider.now) (Ok (evaluation_view c.args.asked.now)) a.is_allowed (string_bytes a.text))
    (λ a h. (o, c.in_ok-outcome.ensures, h)) c.item_outcome.result c.item_outcome.ensures
