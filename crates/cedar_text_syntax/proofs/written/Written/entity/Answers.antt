use Rattle.cedar_text_syntax.proofs.PolicyTurns.{entity_made}
use Rattle.cedar_text_syntax.proofs.written.Written.entity.Goals as goal

pub returns-clause-ok : goal.returns-clause-ok
returns-clause-ok c =
    entity_made c.in_ok-path.ensures.ok c.start_at.ensures c.in_ok-id.ensures.is c.in_ok-id.ensures.next
    c.in_ok-next.ensures.is c.in_ok-next.ensures.next c.end_at-end.ensures c.in_ok-put.ensures.ok
