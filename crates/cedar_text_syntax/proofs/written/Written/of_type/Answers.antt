use Rattle.cedar_text_syntax.proofs.PolicyTurns.{type_made, one_there}
use Rattle.cedar_text_syntax.proofs.written.Written.of_type.Goals as goal

pub put-requires : goal.put-requires
put-requires c = one_there c.in_ok-variable.ensures.ok

pub of_type_in-requires-clause-behind : goal.of_type_in-requires-clause-behind
of_type_in-requires-clause-behind c = c.in_ok-name.ensures.is

pub of_type_in-requires-clause-path : goal.of_type_in-requires-clause-path
of_type_in-requires-clause-path c = rw c.in_ok-name.ensures.next at c.in_ok-path.ensures.ok

pub returns-clause-ok : goal.returns-clause-ok
returns-clause-ok c =
    type_made c.requires.typed c.requires.is c.in_ok-name.ensures.is c.in_ok-name.ensures.next
    c.in_ok-variable.ensures.ok c.in_ok-path.ensures.ok c.start_at.ensures c.in_ok-put.ensures.ok
