use Rattle.cedar_endpoints.proofs.lines.line_answer.Goals as goal
use Rattle.std.proofs.Common.{◌≡◌, ◌++◌, codes, string_bytes}
use Rattle.cedar_endpoints.specs.Lines.{IsLineAnswer}
use Rattle.cedar_endpoints.proofs.Texts.{of_ok}

pub returns : goal.returns
returns g c =
    let r = c.in_ok-reply.reply in
    of_ok (λ s. string_bytes s ≡ string_bytes r.body ++ codes "\n")
    (λ s. IsLineAnswer (g.D.Decider.authorizes c.args.decider.now) c.args.line.now (string_bytes s))
    (λ s h. (r, c.in_ok-reply.ensures, h)) c.ended.result c.ended.ensures
