use Rattle.std.proofs.Common.{◌≡◌, ◌+◌, length, arith, subst}
use Rattle.std.specs.Io.Buffered.{reader_remaining}
use Rattle.cedar_endpoints.specs.Asked.{Text}
use Rattle.cedar_endpoints.specs.Lines.{TakesLine, WritesAnswer, WritesPart}
use Rattle.cedar_endpoints.proofs.Lined.{takes_line, line_step, cut_short}
use Rattle.cedar_endpoints.proofs.lines.answer_line.Goals as goal

pub returns-in-Ok-clause-step : goal.returns-in-Ok-clause-step
returns-in-Ok-clause-step g c =
    let may = g.D.Decider.authorizes c.args.decider.now in
    let r = reader_remaining g.R.Read.remaining c.args.reader.now in
    let s = reader_remaining g.R.Read.remaining c.read_until.new.self in
    let line = c.read_until.new.buf.items in
    let u = g.W.Write.contents c.flush_before.new.writer in
    let v = g.W.Write.contents c.write_answer.new.writer in
    let read = c.in_ok-count.ensures in
    let more : length line ≡ length c.new-line.result.items + c.in_ok-count.count =
    omega (arith, read.ok, c.read_until.new.buf.ok.0, c.new-line.result.ok.0) in
    let takes : TakesLine r s line =
    takes_line r s c.new-line.result.items line c.in_ok-count.count c.new-line.ensures.items more c.if-count-eq0.false
    read.stops read.none_lost read.bytes in
    line_step may r (g.W.Write.contents c.args.writer.now) u s v line takes c.flush_before.ensures
    (subst (λ (l : Text). WritesAnswer may l u v) c.as_slice.ensures.value c.in-Ok.ensures.whole)

pub returns-clause-cut : goal.returns-clause-cut
returns-clause-cut g c =
    let may = g.D.Decider.authorizes c.args.decider.now in
    let r = reader_remaining g.R.Read.remaining c.args.reader.now in
    let s = reader_remaining g.R.Read.remaining c.read_until.new.self in
    let line = c.read_until.new.buf.items in
    let u = g.W.Write.contents c.flush_before.new.writer in
    let v = g.W.Write.contents c.write_answer.new.writer in
    let read = c.in_ok-count.ensures in
    let more : length line ≡ length c.new-line.result.items + c.in_ok-count.count =
    omega (arith, read.ok, c.read_until.new.buf.ok.0, c.new-line.result.ok.0) in
    let takes : TakesLine r s line =
    takes_line r s c.new-line.result.items line c.in_ok-count.count c.new-line.ensures.items more c.if-count-eq0.false
    read.stops read.none_lost read.bytes in
    cut_short may r (g.W.Write.contents c.args.writer.now) u s v line takes c.flush_before.ensures
    (subst (λ (l : Text). WritesPart may l u v) c.as_slice.ensures.value c.in-Err.ensures.part)
