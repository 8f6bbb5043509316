use Rattle.std.specs.Io.Buffered.{reader_remaining}
use Rattle.cedar_logged_lines.specs.Lines.{AreAllLogged, AreSomeLogged}
use Rattle.cedar_service.specs.Decided.{IsAuthorized}
use Rattle.cedar_service.specs.Loaded.{engine_of, loaded_ways}
use Rattle.cedar_service.specs.Ways.{ways_view}
use Rattle.cedar_service.specs.Serving.{loaded_version}
use Rattle.cedar_serve.specs.Logged.{AreLoggedFrom, AreSomeLoggedFrom}
use Rattle.cedar_serve.proofs.Composed.{on_ok, if_broken}
use Rattle.cedar_serve.proofs.logged_lines.log_answers.Goals as goal

pub returns-in-Ok-clause-answered : goal.returns-in-Ok-clause-answered
returns-in-Ok-clause-answered g c =
    let r = reader_remaining g.R.Read.remaining c.args.reader.now in
    let w = g.W.Write.contents c.args.writer.now in
    let v = g.W.Write.contents c.log_loaded.new.writer in
    let k = g.L.Sink.contents c.args.log in
    let m = g.L.Sink.contents c.log_loaded.result.0 in
    on_ok (AreAllLogged (IsAuthorized (engine_of c.in-Ok.loaded) (loaded_ways c.in-Ok.loaded)) (loaded_version c.in-Ok.loaded) r w v k m)
    (AreLoggedFrom c.args.texts.policies.now c.args.texts.entities.now (ways_view c.args.texts.ways) r w v k m)
    (λ h. record { loaded = c.in-Ok.loaded; is_of = c.in-Ok.ensures.loaded; all = h })
    c.log_loaded.result.1 c.log_loaded.ensures.answered

pub returns-in-Ok-clause-broken : goal.returns-in-Ok-clause-broken
returns-in-Ok-clause-broken g c =
    let r = reader_remaining g.R.Read.remaining c.args.reader.now in
    let w = g.W.Write.contents c.args.writer.now in
    let v = g.W.Write.contents c.log_loaded.new.writer in
    let k = g.L.Sink.contents c.args.log in
    let m = g.L.Sink.contents c.log_loaded.result.0 in
    if_broken (AreSomeLogged (IsAuthorized (engine_of c.in-Ok.loaded) (loaded_ways c.in-Ok.loaded)) (loaded_version c.in-Ok.loaded) r w v k m)
    (AreSomeLoggedFrom c.args.texts.policies.now c.args.texts.entities.now (ways_view c.args.texts.ways) r w v k m)
    (λ h. record { loaded = c.in-Ok.loaded; is_of = c.in-Ok.ensures.loaded; some = h })
    c.log_loaded.result.1 c.log_loaded.ensures.broken
