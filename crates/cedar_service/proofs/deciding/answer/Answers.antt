use Rattle.std.proofs.Common.{sym, ◌∙◌, codes}
use Rattle.cedar_extensions.specs.Extensions.{extensions_view, calls_of}
use Rattle.cedar_service.specs.Faults.{IsFault}
use Rattle.cedar_service.specs.Decided.{IsAnswered, IsRefusalOf, unknown}
use Rattle.cedar_service.proofs.Composed.{of_ok}
use Rattle.cedar_service.proofs.Responding.{refused_as}
use Rattle.cedar_service.proofs.deciding.answer.Goals as goal

pub returns-else-has_known_context : goal.returns-else-has_known_context
returns-else-has_known_context g c =
    let x = c.args.extensions.now in
    of_ok (IsRefusalOf c.refuse.result) (IsAnswered (extensions_view x) (calls_of x) c.args.engine.now c.args.store.now c.args.request)
    (λ o h. unknown (sym c.has_known_context.ensures ∙ c.if-has_known_context.false)
    (refused_as (IsFault (codes "$.context") (codes "an unknown stands in it")) c.refuse.result o c.refuse.ensures h))
    c.refused.result c.refused.ensures
