use Rattle.cedar_extensions.specs.Extensions.{extensions_view, calls_of}
use Rattle.cedar_endpoints.specs.Asked.{evaluation_view}
use Rattle.cedar_service.specs.Asked.{AreUnnamed, IsUnasked, no_entities}
use Rattle.cedar_service.proofs.Composed.{because}
use Rattle.cedar_service.proofs.requests.request_of.Goals as goal

pub returns-in-Err-clause-refused : goal.returns-in-Err-clause-refused
returns-in-Err-clause-refused g c =
    let x = c.args.extensions.now in
    let q = evaluation_view c.args.question.now in
    because (AreUnnamed q) (IsUnasked (extensions_view x) (calls_of x) q) (λ t h. no_entities h) c.in-Err.refusal
    c.in-Err.ensures.refused
