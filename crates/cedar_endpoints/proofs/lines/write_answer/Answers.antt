use Rattle.std.proofs.Common.{inl, string_bytes}
use Rattle.std.proofs.KnownBytes.{Keeps-refl}
use Rattle.cedar_endpoints.proofs.Lined.{writes_answer, writes_part}
use Rattle.cedar_endpoints.proofs.lines.write_answer.Goals as goal

pub returns-in-Ok-clause-whole : goal.returns-in-Ok-clause-whole
returns-in-Ok-clause-whole g c =
    writes_answer (g.D.Decider.authorizes c.args.decider.now) c.args.line.now (string_bytes c.in-Ok.answer)
    c.as_bytes.result.now (g.W.Write.contents c.args.writer.now) (g.W.Write.contents c.write_whole.new.writer)
    c.write_whole.result c.as_bytes.ensures.value c.in-Ok.ensures c.write_whole.ensures.whole

pub returns-in-Ok-clause-part : goal.returns-in-Ok-clause-part
returns-in-Ok-clause-part g c =
    writes_part (g.D.Decider.authorizes c.args.decider.now) c.args.line.now (string_bytes c.in-Ok.answer)
    c.as_bytes.result.now (g.W.Write.contents c.args.writer.now) (g.W.Write.contents c.write_whole.new.writer)
    c.write_whole.result c.as_bytes.ensures.value c.in-Ok.ensures c.write_whole.ensures.part

pub returns-in-Err-clause-part : goal.returns-in-Err-clause-part
returns-in-Err-clause-part g c = inl (Keeps-refl (g.W.Write.contents c.args.writer.now))
