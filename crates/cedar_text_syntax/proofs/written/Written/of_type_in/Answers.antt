use Rattle.cedar_text_syntax.proofs.PolicyTurns.{type_in_made, two_put}
use Rattle.cedar_text_syntax.proofs.written.Written.of_type_in.Goals as goal

pub put-requires : goal.put-requires
put-requires c = two_put c.in_ok-variable.ensures.ok c.in_ok-right.ensures.ok

pub returns-clause-ok : goal.returns-clause-ok
returns-clause-ok c =
    type_in_made c.requires.typed c.requires.is c.requires.behind c.in_ok-name.ensures.next c.requires.path
    c.in_ok-at.ensures.is c.in_ok-at.ensures.next c.in_ok-variable.ensures.ok c.in_ok-right.ensures.ok
    c.start_at.ensures c.in_ok-put.ensures.ok
