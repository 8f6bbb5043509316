use Rattle.std.proofs.Common.{codes}
use Rattle.cedar_endpoints.specs.Asked.{evaluation_view}
use Rattle.cedar_service.specs.Asked.{IsUnnamed, AreUnnamed, no_resource}
use Rattle.cedar_service.specs.Faults.{IsFault}
use Rattle.cedar_service.proofs.Composed.{because}
use Rattle.cedar_service.proofs.requests.with_resource.Goals as goal

pub returns-in-Err-clause-refused : goal.returns-in-Err-clause-refused
returns-in-Err-clause-refused c =
    let q = evaluation_view c.args.question.now in
    because (λ t. IsUnnamed q.resource × IsFault (codes "$.resource.type") (codes "not a name") t) (AreUnnamed q)
    (λ t h. no_resource h.0 h.1) c.in-Err.refusal c.in-Err.ensures.refused
