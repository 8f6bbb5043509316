use Rattle.cedar_text_syntax.proofs.PolicyTurns.{key_read}
use Rattle.cedar_text_syntax.proofs.annotations.annotation.Goals as goal

pub returns-clause-ok : goal.returns-clause-ok
returns-clause-ok c =
    λ i h. key_read c.in_ok-key.ensures.is c.in_ok-key.ensures.next c.in_ok-behind.ensures.is c.in_ok-behind.ensures.next
    c.in_ok-put.ensures.ok h
