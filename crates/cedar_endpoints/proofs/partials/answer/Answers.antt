use Rattle.std.proofs.Common.{Ok}
use Rattle.cedar_endpoints.specs.Partials.{partial_view, IsRemainder, IsLeft}
use Rattle.cedar_endpoints.proofs.Texts.{of_ok}
use Rattle.cedar_endpoints.proofs.partials.answer.Goals as goal

pub returns : goal.returns
returns g c =
    let o = c.in_ok-remainder.remainder in
    of_ok (IsRemainder o) (IsLeft (g.D.Decider.leaves c.args.decider.now) c.args.text.now (Ok (partial_view c.args.asked.now)))
    (λ r h. (o, c.in_ok-remainder.ensures, h)) c.reply_of.result c.reply_of.ensures
