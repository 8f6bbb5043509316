use Rattle.cedar_text_syntax.proofs.Turns.{negative_read}
use Rattle.cedar_text_syntax.proofs.machine.work.Work.negative.Goals as goal

pub returns-clause-reads : goal.returns-clause-reads
returns-clause-reads c =
    negative_read c.requires.waits c.requires.is c.requires.next c.end_at-end.ensures c.saturating_sub.ensures
    c.in_ok-make.ensures.look c.in_ok-sign.ensures.look
