use Rattle.http_server.proofs.Theorems.{always_served}
use Rattle.cedar_log.proofs.Chained.{all_logged}
use Rattle.cedar_log.proofs.serving.serve_logged.Goals as goal

pub returns-clause-logged : goal.returns-clause-logged
returns-clause-logged g c =
    let calls = c.serve.ensures.calls in (
      calls.0,
      all_logged g.S.Service.answers g.L.Sink.contents calls.0 c.args.service.now c.serve.new.service calls.2,
      calls.1,
    )

pub returns-clause-sent : goal.returns-clause-sent
returns-clause-sent g c = always_served c.serve.new.connection
