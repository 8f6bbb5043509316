use Rattle.cedar_text_syntax.proofs.PolicyTurns.{list_made, two_put}
use Rattle.cedar_text_syntax.proofs.written.Written.in_list.Goals as goal

pub put-requires : goal.put-requires
put-requires c = two_put c.in_ok-variable.ensures.ok c.in_ok-close.ensures.ok

pub returns-clause-ok : goal.returns-clause-ok
returns-clause-ok c =
    list_made c.requires.is c.in_ok-at.ensures.is c.in_ok-at.ensures.next c.in_ok-variable.ensures.ok
    c.in_ok-close.ensures.ok c.start_at.ensures c.end_at-end.ensures c.in_ok-put.ensures.ok c.in_ok-next.ensures.next
