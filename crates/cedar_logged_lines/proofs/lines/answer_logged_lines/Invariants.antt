use Rattle.std.specs.Io.Buffered.{reader_remaining}
use Rattle.cedar_logged_lines.proofs.Lined.{Logged}
use Rattle.cedar_logged_lines.proofs.lines.answer_logged_lines.Given as goal

-- the lines so far are told and answered
abbrev pub invariant-lines : goal.invariant-lines
invariant-lines g l =
    Logged (g.D.Decider.authorizes l.fn.decider) (g.D.Decider.version l.fn.decider)
    (reader_remaining g.R.Read.remaining l.fn.reader) (g.W.Write.contents l.fn.writer) (g.L.Sink.contents l.fn.log.sink)
    (reader_remaining g.R.Read.remaining l.reader) (g.W.Write.contents l.writer) (g.L.Sink.contents l.log.sink)
