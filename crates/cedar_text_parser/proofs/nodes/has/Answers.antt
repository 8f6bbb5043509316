use Rattle.cedar_text_parser.proofs.Growing.{has_one_key, has_more_keys}
use Rattle.cedar_text_parser.proofs.nodes.has.Goals as goal

pub returns-in_ok-has_attr-clause-ok : goal.returns-in_ok-has_attr-clause-ok
returns-in_ok-has_attr-clause-ok c =
    rw c.in_ok-has_attr.ensures.kind
    (has_one_key c.in_ok-keys.keys c.in_ok-keys.ensures.ok (rw c.deref.ensures.value at c.is_alone.ensures)
    c.if-is_alone.true)

pub returns-in_ok-extended_has_attr-clause-ok : goal.returns-in_ok-extended_has_attr-clause-ok
returns-in_ok-extended_has_attr-clause-ok c =
    rw c.in_ok-extended_has_attr.ensures.kind
    (has_more_keys c.in_ok-keys.keys c.in_ok-keys.ensures.ok (rw c.deref.ensures.value at c.is_alone.ensures)
    c.if-is_alone.false)
