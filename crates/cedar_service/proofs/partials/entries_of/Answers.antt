use Rattle.std.proofs.Common.{codes}
use Rattle.cedar_endpoints.specs.Partials.{partial_view}
use Rattle.cedar_service.specs.Left.{IsNoEntry, AreUnentered, no_principal}
use Rattle.cedar_service.proofs.Composed.{because}
use Rattle.cedar_service.proofs.partials.entries_of.Goals as goal

pub returns-in-Err-clause-refused : goal.returns-in-Err-clause-refused
returns-in-Err-clause-refused c =
    let q = partial_view c.args.question.now in
    because (IsNoEntry q.principal (codes "$.principal")) (AreUnentered q) (λ t h. no_principal h) c.in-Err.refusal
    c.in-Err.ensures.refused
