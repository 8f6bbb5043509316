use Rattle.cedar_text_syntax.proofs.PolicyTurns.{set_made, entities_count}
use Rattle.cedar_text_syntax.proofs.written.Written.filled_set.Goals as goal

pub put-requires : goal.put-requires
put-requires c = entities_count c.in_ok-listed.ensures.ok

pub returns-clause-ok : goal.returns-clause-ok
returns-clause-ok c =
    set_made c.requires.is c.requires.next c.in_ok-listed.ensures.ok c.in_ok-expect.ensures.is c.start_at.ensures
    c.end_at.ensures c.in_ok-put.ensures.ok
