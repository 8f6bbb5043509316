use Rattle.std.specs.Io.Buffered.{reader_remaining}
use Rattle.cedar_endpoints.specs.Lines.{AreAllAnswered, AreSomeAnswered}
use Rattle.cedar_service.specs.Decided.{IsAuthorized}
use Rattle.cedar_service.specs.Loaded.{engine_of, loaded_ways}
use Rattle.cedar_service.specs.Ways.{ways_view}
use Rattle.cedar_serve.specs.Connections.{AreAnsweredFrom, AreSomeAnsweredFrom}
use Rattle.cedar_serve.proofs.Composed.{on_ok, if_broken}
use Rattle.cedar_serve.proofs.lines.answer_texts.Goals as goal

pub returns-in-Ok-clause-answered : goal.returns-in-Ok-clause-answered
returns-in-Ok-clause-answered g c =
    let r = reader_remaining g.R.Read.remaining c.args.reader.now in
    let w = g.W.Write.contents c.args.writer.now in
    let v = g.W.Write.contents c.answer_with-answered.new.writer in
    on_ok (AreAllAnswered (IsAuthorized (engine_of c.in-Ok.loaded) (loaded_ways c.in-Ok.loaded)) r w v)
    (AreAnsweredFrom c.args.texts.policies.now c.args.texts.entities.now (ways_view c.args.texts.ways) r w v)
    (λ h. record { loaded = c.in-Ok.loaded; is_of = c.in-Ok.ensures.loaded; all = h })
    c.answer_with-answered.result c.answer_with-answered.ensures.answered

pub returns-in-Ok-clause-broken : goal.returns-in-Ok-clause-broken
returns-in-Ok-clause-broken g c =
    let r = reader_remaining g.R.Read.remaining c.args.reader.now in
    let w = g.W.Write.contents c.args.writer.now in
    let v = g.W.Write.contents c.answer_with-answered.new.writer in
    if_broken (AreSomeAnswered (IsAuthorized (engine_of c.in-Ok.loaded) (loaded_ways c.in-Ok.loaded)) r w v)
    (AreSomeAnsweredFrom c.args.texts.policies.now c.args.texts.entities.now (ways_view c.args.texts.ways) r w v)
    (λ h. record { loaded = c.in-Ok.loaded; is_of = c.in-Ok.ensures.loaded; some = h })
    c.answer_with-answered.result c.answer_with-answered.ensures.broken
