use Rattle.std.proofs.Common.{[]}
use Rattle.std.specs.Io.Buffered.{reader_remaining}
use Rattle.std.proofs.KnownBytes.{Keeps-refl}
use Rattle.cedar_endpoints.specs.Lines.{no_line, nothing_more}
use Rattle.cedar_endpoints.proofs.Lined.{with_line, at_the_end, some_answered, some_at_the_end}
use Rattle.cedar_endpoints.proofs.lines.answer_lines.Goals as goal

pub lines-init : goal.lines-init
lines-init g c = ([], [], no_line)

pub lines-preserved : goal.lines-preserved
lines-preserved g c =
    with_line (g.D.Decider.authorizes c.args.decider.now) (reader_remaining g.R.Read.remaining c.args.reader.now)
    (g.W.Write.contents c.args.writer.now) (reader_remaining g.R.Read.remaining c.lines.reader)
    (g.W.Write.contents c.lines.writer) (reader_remaining g.R.Read.remaining c.answer_line.new.reader)
    (g.W.Write.contents c.answer_line.new.writer) c.in-Ok.more c.if-not-more.false c.in-Ok.ensures.step
    c.lines.invariant

pub returns-then-not-more-clause-all : goal.returns-then-not-more-clause-all
returns-then-not-more-clause-all g c =
    at_the_end (g.D.Decider.authorizes c.args.decider.now) (reader_remaining g.R.Read.remaining c.args.reader.now)
    (g.W.Write.contents c.args.writer.now) (reader_remaining g.R.Read.remaining c.lines.reader)
    (g.W.Write.contents c.lines.writer) (reader_remaining g.R.Read.remaining c.answer_line.new.reader)
    (g.W.Write.contents c.answer_line.new.writer) (g.W.Write.contents c.flush.new.self) c.in-Ok.more c.flush.result
    c.if-not-more.true c.in-Ok.ensures.step c.flush.ensures.bytes c.lines.invariant

pub returns-then-not-more-clause-some : goal.returns-then-not-more-clause-some
returns-then-not-more-clause-some g c =
    some_at_the_end (g.D.Decider.authorizes c.args.decider.now) (reader_remaining g.R.Read.remaining c.args.reader.now)
    (g.W.Write.contents c.args.writer.now) (reader_remaining g.R.Read.remaining c.lines.reader)
    (g.W.Write.contents c.lines.writer) (reader_remaining g.R.Read.remaining c.answer_line.new.reader)
    (g.W.Write.contents c.answer_line.new.writer) (g.W.Write.contents c.flush.new.self) c.in-Ok.more c.flush.result
    c.if-not-more.true c.in-Ok.ensures.step c.flush.ensures.bytes c.lines.invariant

pub returns-in-Err-clause-some : goal.returns-in-Err-clause-some
returns-in-Err-clause-some g c =
    some_answered (g.D.Decider.authorizes c.args.decider.now) (reader_remaining g.R.Read.remaining c.args.reader.now)
    (g.W.Write.contents c.args.writer.now) (reader_remaining g.R.Read.remaining c.lines.reader)
    (g.W.Write.contents c.lines.writer) (g.W.Write.contents c.answer_line.new.writer) c.lines.invariant
    c.in-Err.ensures.cut

pub returns-clause-some : goal.returns-clause-some
returns-clause-some g c =
    some_answered (g.D.Decider.authorizes c.args.decider.now) (reader_remaining g.R.Read.remaining c.args.reader.now)
    (g.W.Write.contents c.args.writer.now) (reader_remaining g.R.Read.remaining c.lines.reader)
    (g.W.Write.contents c.lines.writer) (g.W.Write.contents c.lines.writer) c.lines.invariant
    (nothing_more (Keeps-refl (g.W.Write.contents c.lines.writer)))
