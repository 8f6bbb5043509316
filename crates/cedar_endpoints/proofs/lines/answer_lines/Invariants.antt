use Rattle.std.specs.Io.Buffered.{reader_remaining}
use Rattle.cedar_endpoints.proofs.Lined.{Answered}
use Rattle.cedar_endpoints.proofs.lines.answer_lines.Given as goal

-- the lines so far are answered
abbrev pub invariant-lines : goal.invariant-lines
invariant-lines g l =
    Answered (g.D.Decider.authorizes l.fn.decider) (reader_remaining g.R.Read.remaining l.fn.reader)
    (g.W.Write.contents l.fn.writer) (reader_remaining g.R.Read.remaining l.reader) (g.W.Write.contents l.writer)
