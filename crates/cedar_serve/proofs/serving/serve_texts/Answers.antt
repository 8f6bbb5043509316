use Rattle.http_server.specs.History.{History}
use Rattle.std.proofs.Common.{◌≡◌, option_map}
use Rattle.std.specs.Io.KnownBytes.{Appends, Consumes}
use Rattle.cedar_service.specs.Loaded.{both_texts}
use Rattle.cedar_service.specs.Ways.{ways_view}
use Rattle.cedar_serve.specs.Connections.{IsServedBy, IsServedFrom}
use Rattle.cedar_serve.proofs.Ended.{if_served}
use Rattle.cedar_serve.proofs.serving.serve_texts.Goals as goal

pub returns-in-Ok-clause-served : goal.returns-in-Ok-clause-served
returns-in-Ok-clause-served g c =
    if_served
    (λ h. IsServedBy c.in-Ok.service c.args.config h
    × Consumes (g.R.Read.remaining c.args.reader.now) (g.R.Read.remaining c.serve_with.new.reader) h.received
    × Appends (g.W.Write.contents c.args.writer.now) (g.W.Write.contents c.serve_with.new.writer) h.sent)
    (λ h. IsServedFrom c.args.texts.policies.now c.args.texts.entities.now
    (option_map (λ u. u.now) c.args.texts.url) c.args.texts.page c.args.texts.allows_reload (ways_view c.args.texts.ways)
    c.args.config h
    × Consumes (g.R.Read.remaining c.args.reader.now) (g.R.Read.remaining c.serve_with.new.reader) h.received
    × Appends (g.W.Write.contents c.args.writer.now) (g.W.Write.contents c.serve_with.new.writer) h.sent)
    c.serve_with.result
    (λ (h : History). λ (served, read, written). (
      record {
        service = c.in-Ok.service;
        last = served.last;
        metadata = c.in-Ok.ensures.metadata;
        page_is = c.in-Ok.ensures.page;
        reload_is = c.in-Ok.ensures.reload;
        evaluations_are = c.in-Ok.ensures.evaluations;
        answered = served.answered (both_texts c.args.texts.policies.now c.args.texts.entities.now
            (ways_view c.args.texts.ways)) c.in-Ok.ensures.engine;
        sent = served.sent;
      },
      read,
      written,
    ))
    c.serve_with.ensures.served
