use Rattle.http_server.proofs.Theorems.{always_served}
use Rattle.cedar_service.specs.Loaded.{Texts, IsLoadedOf}
use Rattle.cedar_service.proofs.Due.{all_answered}
use Rattle.cedar_service.proofs.serving.serve_decisions.Goals as goal

pub returns-clause-answered : goal.returns-clause-answered
returns-clause-answered g c =
    let calls = c.serve.ensures.calls in (
      calls.0,
      λ (ts : Texts). λ (has : IsLoadedOf ts c.args.service.now.decider).
          all_answered calls.0 ts c.args.service.now c.serve.new.service has calls.2,
      calls.1,
    )

pub returns-clause-sent : goal.returns-clause-sent
returns-clause-sent g c = always_served c.serve.new.connection
