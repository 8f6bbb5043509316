use Rattle.cedar_text_syntax.proofs.PolicyTurns.{value_read}
use Rattle.cedar_text_syntax.proofs.annotations.annotation_value.Goals as goal

pub returns-clause-ok : goal.returns-clause-ok
returns-clause-ok c =
    λ i h. value_read c.requires.is c.requires.key c.requires.word c.requires.paren c.in_ok-text.ensures.is
    c.in_ok-text.ensures.next c.in_ok-close.ensures.is c.in_ok-close.ensures.next c.in_ok-next.ensures.is
    c.in_ok-next.ensures.next c.in_ok-put.ensures.ok h
