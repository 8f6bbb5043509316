use Rattle.std.proofs.Common.{sym, ◌∙◌}
use Rattle.cedar_text_syntax.proofs.PolicyTurns.{slot_made}
use Rattle.cedar_text_syntax.proofs.written.Written.reference.Goals as goal

pub returns-in_ok-put-clause-ok : goal.returns-in_ok-put-clause-ok
returns-in_ok-put-clause-ok c =
    slot_made (rw c.kind_at.ensures at (sym c.is_slot_of.ensures ∙ c.if-is_slot_of.true)) c.start_at.ensures
    c.end_at-end.ensures c.in_ok-put.ensures.ok
