use Rattle.std.proofs.Common.{string_bytes}
use Rattle.std.proofs.KnownBytes.{Keeps-refl}
use Rattle.std.specs.Io.KnownBytes.{Appends}
use Rattle.cedar_logged_lines.specs.Lines.{told_in_part}
use Rattle.cedar_logged_lines.proofs.Lined.{told_whole, told_part, answered_part, on_any, on_same}
use Rattle.cedar_logged_lines.proofs.lines.hand_over.Goals as goal

pub returns-then-append-clause-told : goal.returns-then-append-clause-told
returns-then-append-clause-told g c =
    let told = string_bytes c.args.answer.now.told in
    on_any (Appends (g.L.Sink.contents c.args.log.now.sink) (g.L.Sink.contents c.append.new.log.sink) told)
    c.write_whole.result
    (told_whole g.L.Sink.contents c.as_str.result.now told c.args.log.now c.append.new.log c.append.result
    c.if-append.true c.as_str.ensures.value c.append.ensures)

pub returns-then-append-clause-written : goal.returns-then-append-clause-written
returns-then-append-clause-written g c =
    on_same (g.W.Write.contents c.args.writer.now) (g.W.Write.contents c.write_whole.new.writer) c.as_bytes.result.now
    (string_bytes c.args.answer.now.answer) c.write_whole.result c.as_bytes.ensures.value c.write_whole.ensures.whole

pub returns-then-append-clause-part : goal.returns-then-append-clause-part
returns-then-append-clause-part g c =
    let told = string_bytes c.args.answer.now.told in
    answered_part (g.L.Sink.contents c.args.log.now.sink) (g.L.Sink.contents c.append.new.log.sink)
    (g.W.Write.contents c.args.writer.now) (g.W.Write.contents c.write_whole.new.writer) told
    (string_bytes c.args.answer.now.answer) c.as_bytes.result.now c.write_whole.result c.as_bytes.ensures.value
    (told_whole g.L.Sink.contents c.as_str.result.now told c.args.log.now c.append.new.log c.append.result
    c.if-append.true c.as_str.ensures.value c.append.ensures)
    c.write_whole.ensures.part

pub returns-else-append-clause-part : goal.returns-else-append-clause-part
returns-else-append-clause-part g c =
    told_in_part
    (told_part g.L.Sink.contents c.as_str.result.now (string_bytes c.args.answer.now.told) c.args.log.now c.append.new.log
    c.append.result c.if-append.false c.as_str.ensures.value c.append.ensures)
    (Keeps-refl (g.W.Write.contents c.args.writer.now))
