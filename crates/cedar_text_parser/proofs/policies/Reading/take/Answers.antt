use Rattle.std.proofs.Common.{arith}
use Rattle.cedar_text_syntax.proofs.Within.{policy_grows}
use Rattle.cedar_text_parser.specs.PolicyReading.{at_policy}
use Rattle.cedar_text_parser.proofs.Read.{told_behind}
use Rattle.cedar_text_parser.proofs.policies.Reading.take.Goals as goal

pub returns-in_ok-next-in-Err-clause-told : goal.returns-in_ok-next-in-Err-clause-told
returns-in_ok-next-in-Err-clause-told c =
    λ h.
    told_behind c.in-Err.error c.in_ok-next-in-Err.ensures.told c.in-Err.ensures.placed
    (at_policy c.tokens_stand.ensures.cut c.in-Err.ensures.err) h

pub returns-in_ok-next-in-Ok-clause-moves : goal.returns-in_ok-next-in-Ok-clause-moves
returns-in_ok-next-in-Ok-clause-moves c =
    omega
    (arith, c.in_ok-next-in-Ok.ensures.next, c.in-Ok.ensures.ok.next, policy_grows c.in-Ok.ensures.ok.derives)
