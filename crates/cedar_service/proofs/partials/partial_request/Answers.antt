use Rattle.cedar_extensions.specs.Extensions.{extensions_view, calls_of}
use Rattle.cedar_endpoints.specs.Partials.{partial_view}
use Rattle.cedar_service.specs.Left.{AreUnentered, IsUnaskedPartly, no_entries}
use Rattle.cedar_service.proofs.Composed.{because}
use Rattle.cedar_service.proofs.partials.partial_request.Goals as goal

pub returns-in-Err-clause-refused : goal.returns-in-Err-clause-refused
returns-in-Err-clause-refused g c =
    let x = c.args.extensions.now in
    let q = partial_view c.args.question.now in
    because (AreUnentered q) (IsUnaskedPartly (extensions_view x) (calls_of x) q) (λ t h. no_entries h)
    c.in-Err.refusal c.in-Err.ensures.refused
