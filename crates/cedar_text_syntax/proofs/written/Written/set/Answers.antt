use Rattle.cedar_text_syntax.proofs.PolicyTurns.{no_set_made}
use Rattle.cedar_text_syntax.proofs.written.Written.set.Goals as goal

pub returns-in_ok-put-in-Some-clause-ok : goal.returns-in_ok-put-in-Some-clause-ok
returns-in_ok-put-in-Some-clause-ok c =
    no_set_made c.in_ok-first.ensures.is c.in_ok-first.ensures.next c.in-Some.ensures.is c.start_at.ensures
    c.end_at.ensures c.in_ok-put-in-Some.ensures.ok
