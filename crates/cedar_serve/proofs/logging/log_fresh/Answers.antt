use Rattle.std.proofs.Common.{◌∙◌, sym, ap, subst, Bool, true, false}
use Rattle.std.specs.Prelude.{⊤}
use Rattle.std.specs.Io.KnownBytes.{Appends, Consumes}
use Rattle.http_server.specs.Connection.{history}
use Rattle.http_server.specs.History.{History}
use Rattle.cedar_serve.proofs.Ended.{all_since}
use Rattle.cedar_serve.proofs.Told.{logged_over}
use Rattle.cedar_serve.proofs.logging.log_fresh.Goals as goal

pub returns-then-service-clause-served : goal.returns-then-service-clause-served
returns-then-service-clause-served g c =
    logged_over g.L.Sink.contents c.args.service.now c.serve_logged-ended.new.service c.args.connection.now
    c.serve_logged-ended.new.connection (λ lacked. c.into.ensures) c.requires.fresh c.requires.whole
    c.serve_logged-ended.ensures.logged c.serve_logged-ended.ensures.sent c.serve_logged-ended.ensures.config

pub returns-then-service-clause-read : goal.returns-then-service-clause-read
returns-then-service-clause-read g c =
    all_since
    (λ bs. Consumes (g.R.Read.remaining c.args.reader.now) (g.R.Read.remaining c.serve_logged-ended.new.reader) bs)
    (history c.args.connection.now).received (history c.serve_logged-ended.new.connection).received
    (ap (λ (h : History). h.received) c.requires.fresh) c.serve_logged-ended.ensures.read

pub returns-then-service-clause-written : goal.returns-then-service-clause-written
returns-then-service-clause-written g c =
    all_since
    (λ bs. Appends (g.W.Write.contents c.args.writer.now) (g.W.Write.contents c.serve_logged-ended.new.writer) bs)
    (history c.args.connection.now).sent (history c.serve_logged-ended.new.connection).sent
    (ap (λ (h : History). h.sent) c.requires.fresh) c.serve_logged-ended.ensures.written

pub returns-clause-served : goal.returns-clause-served
returns-clause-served g c =
    logged_over g.L.Sink.contents c.args.service.now c.serve_logged-ended.new.service c.args.connection.now
    c.serve_logged-ended.new.connection (λ lacked. absurd (cc)) c.requires.fresh c.requires.whole
    c.serve_logged-ended.ensures.logged c.serve_logged-ended.ensures.sent c.serve_logged-ended.ensures.config

pub returns-clause-read : goal.returns-clause-read
returns-clause-read g c =
    all_since
    (λ bs. Consumes (g.R.Read.remaining c.args.reader.now) (g.R.Read.remaining c.serve_logged-ended.new.reader) bs)
    (history c.args.connection.now).received (history c.serve_logged-ended.new.connection).received
    (ap (λ (h : History). h.received) c.requires.fresh) c.serve_logged-ended.ensures.read

pub returns-clause-written : goal.returns-clause-written
returns-clause-written g c =
    all_since
    (λ bs. Appends (g.W.Write.contents c.args.writer.now) (g.W.Write.contents c.serve_logged-ended.new.writer) bs)
    (history c.args.connection.now).sent (history c.serve_logged-ended.new.connection).sent
    (ap (λ (h : History). h.sent) c.requires.fresh) c.serve_logged-ended.ensures.written
