use Rattle.cedar_text_syntax.proofs.PolicyTurns.{negated_made, plain_made}
use Rattle.cedar_text_syntax.proofs.written.Written.end_braces.Goals as goal

pub returns-in_ok-put-clause-ok : goal.returns-in_ok-put-clause-ok
returns-in_ok-put-clause-ok c =
    λ p ts b h m.
    negated_made (rw c.if-negates.true at c.requires.is) c.start_at-start.ensures c.end_at-end.ensures
    c.in_ok-put.ensures.ok b h m

pub returns-else-negates-clause-ok : goal.returns-else-negates-clause-ok
returns-else-negates-clause-ok c =
    λ p ts b h m. plain_made (rw c.if-negates.false at c.requires.is) c.end_at-end.ensures b h m
