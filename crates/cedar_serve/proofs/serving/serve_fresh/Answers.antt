use Rattle.std.proofs.Common.{ap}
use Rattle.std.specs.Io.KnownBytes.{Appends, Consumes}
use Rattle.http_server.specs.Connection.{history}
use Rattle.http_server.specs.History.{History}
use Rattle.cedar_serve.proofs.Ended.{served_over, all_since}
use Rattle.cedar_serve.proofs.serving.serve_fresh.Goals as goal

pub returns-clause-served : goal.returns-clause-served
returns-clause-served g c =
    served_over c.args.service.now c.serve_decisions.new.service c.args.connection.now
    c.serve_decisions.new.connection c.requires c.serve_decisions.ensures.answered c.serve_decisions.ensures.sent
    c.serve_decisions.ensures.config

pub returns-clause-read : goal.returns-clause-read
returns-clause-read g c =
    all_since
    (λ bs. Consumes (g.R.Read.remaining c.args.reader.now) (g.R.Read.remaining c.serve_decisions.new.reader) bs)
    (history c.args.connection.now).received (history c.serve_decisions.new.connection).received
    (ap (λ (h : History). h.received) c.requires) c.serve_decisions.ensures.read

pub returns-clause-written : goal.returns-clause-written
returns-clause-written g c =
    all_since
    (λ bs. Appends (g.W.Write.contents c.args.writer.now) (g.W.Write.contents c.serve_decisions.new.writer) bs)
    (history c.args.connection.now).sent (history c.serve_decisions.new.connection).sent
    (ap (λ (h : History). h.sent) c.requires) c.serve_decisions.ensures.written
