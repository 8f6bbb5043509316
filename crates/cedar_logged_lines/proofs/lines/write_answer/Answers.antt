use Rattle.std.proofs.Common.{inl, refl, string_bytes}
use Rattle.std.proofs.KnownBytes.{Keeps-refl}
use Rattle.cedar_logged_lines.proofs.Lined.{writes_answer, writes_part}
use Rattle.cedar_logged_lines.proofs.lines.write_answer.Goals as goal

pub returns-in-Ok-clause-whole : goal.returns-in-Ok-clause-whole
returns-in-Ok-clause-whole g c =
    writes_answer (g.D.Decider.authorizes c.args.decider.now) (g.D.Decider.version c.args.decider.now) c.args.line.now
    (string_bytes c.in-Ok.answer.answer) (string_bytes c.in-Ok.answer.told)
    (g.L.Sink.contents c.args.log.now.sink) (g.L.Sink.contents c.hand_over.new.log.sink)
    (g.W.Write.contents c.args.writer.now) (g.W.Write.contents c.hand_over.new.writer) c.hand_over.result
    c.in-Ok.ensures c.hand_over.ensures.told c.hand_over.ensures.written

pub returns-in-Ok-clause-part : goal.returns-in-Ok-clause-part
returns-in-Ok-clause-part g c =
    writes_part (g.D.Decider.authorizes c.args.decider.now) (g.D.Decider.version c.args.decider.now) c.args.line.now
    (string_bytes c.in-Ok.answer.answer) (string_bytes c.in-Ok.answer.told)
    (g.L.Sink.contents c.args.log.now.sink) (g.L.Sink.contents c.hand_over.new.log.sink)
    (g.W.Write.contents c.args.writer.now) (g.W.Write.contents c.hand_over.new.writer) c.hand_over.result
    c.in-Ok.ensures c.hand_over.ensures.part

pub returns-in-Err-clause-part : goal.returns-in-Err-clause-part
returns-in-Err-clause-part g c = inl (Keeps-refl (g.W.Write.contents c.args.writer.now), refl)
