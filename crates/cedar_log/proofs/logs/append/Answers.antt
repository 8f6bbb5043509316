use Rattle.std.proofs.Common.{refl, not, []}
use Rattle.std.proofs.KnownBytes.{Appends-nil}
use Rattle.cedar_log.specs.Logs.{broken}
use Rattle.cedar_log.proofs.Telling.{appended}
use Rattle.cedar_log.proofs.logs.append.Goals as goal

pub returns-then-log : goal.returns-then-log
returns-then-log g c =
    broken [] c.args.text.now refl (λ lost. refl) c.if-log.true (Appends-nil (g.L.Sink.contents c.args.log.now.sink))

pub returns : goal.returns
returns g c =
    appended g.L.Sink.contents c.append-is_whole.result c.args.text.now c.as_bytes.result.now c.args.log.now
    (record { sink = c.append-is_whole.new.self; is_broken = not c.append-is_whole.result }) c.if-log.false refl
    c.as_bytes.ensures.value c.append-is_whole.ensures.part c.append-is_whole.ensures.whole
