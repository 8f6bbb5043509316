use Rattle.cedar_text_syntax.proofs.PolicyTurns.{compared_made, two_put}
use Rattle.cedar_text_syntax.proofs.written.Written.read_comparison.Goals as goal

pub put-requires : goal.put-requires
put-requires c = two_put c.in_ok-variable.ensures.ok c.in_ok-right.ensures.ok

pub returns-clause-ok : goal.returns-clause-ok
returns-clause-ok c =
    compared_made c.requires.is c.in_ok-at.ensures.is c.requires.relation c.in_ok-at.ensures.next
    c.in_ok-variable.ensures.ok c.in_ok-right.ensures.ok c.start_at.ensures c.in_ok-put.ensures.ok
