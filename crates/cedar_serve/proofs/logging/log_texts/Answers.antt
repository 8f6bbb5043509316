use Rattle.http_server.specs.History.{History}
use Rattle.std.proofs.Common.{◌≡◌, option_map}
use Rattle.std.specs.Io.KnownBytes.{Appends, Consumes}
use Rattle.cedar_service.specs.Loaded.{both_texts}
use Rattle.cedar_service.specs.Ways.{ways_view}
use Rattle.cedar_serve.specs.Logged.{IsLoggedBy, IsLoggedFrom, IsOutOfMemory}
use Rattle.cedar_serve.proofs.Ended.{if_served}
use Rattle.cedar_serve.proofs.logging.log_texts.Goals as goal

pub returns-in-Ok-clause-served : goal.returns-in-Ok-clause-served
returns-in-Ok-clause-served g c =
    let before = g.L.Sink.contents c.args.log in
    let after = g.L.Sink.contents c.log_with.result.0 in
    if_served
    (λ h. IsLoggedBy c.in-Ok.service c.args.config (IsOutOfMemory c.log_with.result.1) before after h
    × Consumes (g.R.Read.remaining c.args.reader.now) (g.R.Read.remaining c.log_with.new.reader) h.received
    × Appends (g.W.Write.contents c.args.writer.now) (g.W.Write.contents c.log_with.new.writer) h.sent)
    (λ h. IsLoggedFrom c.args.texts.policies.now c.args.texts.entities.now
    (option_map (λ u. u.now) c.args.texts.url) c.args.texts.page c.args.texts.allows_reload (ways_view c.args.texts.ways)
    c.args.config (IsOutOfMemory c.log_with.result.1) before after h
    × Consumes (g.R.Read.remaining c.args.reader.now) (g.R.Read.remaining c.log_with.new.reader) h.received
    × Appends (g.W.Write.contents c.args.writer.now) (g.W.Write.contents c.log_with.new.writer) h.sent)
    c.log_with.result.1
    (λ (h : History). λ (logged, read, written). (
      record {
        service = c.in-Ok.service;
        due = logged.due;
        last = logged.last;
        metadata = c.in-Ok.ensures.metadata;
        page_is = c.in-Ok.ensures.page;
        reload_is = c.in-Ok.ensures.reload;
        evaluations_are = c.in-Ok.ensures.evaluations;
        answered = logged.answered (both_texts c.args.texts.policies.now c.args.texts.entities.now (ways_view c.args.texts.ways))
            c.in-Ok.ensures.engine;
        told = logged.told;
        sent = logged.sent;
      },
      read,
      written,
    ))
    c.log_with.ensures.served
