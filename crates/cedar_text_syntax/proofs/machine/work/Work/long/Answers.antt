use Rattle.cedar_text_syntax.proofs.Turns.{long_read}
use Rattle.cedar_text_syntax.proofs.machine.work.Work.long.Goals as goal

pub returns-clause-reads : goal.returns-clause-reads
returns-clause-reads c =
    long_read c.requires.stands.0 c.requires.stands.1 c.requires.stands.2 c.start_at-start.ensures
    c.end_at-end.ensures c.in_ok-make.ensures.look
