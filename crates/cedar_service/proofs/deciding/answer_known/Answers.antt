use Rattle.cedar_extensions.specs.Extensions.{extensions_view, calls_of}
use Rattle.cedar_service.specs.Decided.{IsAnswered, IsOutcomeOf, answered}
use Rattle.cedar_service.proofs.Composed.{of_ok}
use Rattle.cedar_service.proofs.deciding.answer_known.Goals as goal

pub returns : goal.returns
returns g c =
    let x = c.args.extensions.now in
    of_ok (IsOutcomeOf c.in_ok-response.response)
    (IsAnswered (extensions_view x) (calls_of x) c.args.engine.now c.args.store.now c.args.request)
    (λ o h. answered c.in_ok-response.response c.requires c.in_ok-response.ensures h) c.outcome_of-outcome.result c.outcome_of-outcome.ensures
