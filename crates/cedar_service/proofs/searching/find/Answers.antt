use Rattle.std.proofs.Common.{sym, ◌∙◌, codes}
use Rattle.cedar_extensions.specs.Extensions.{extensions_view, calls_of}
use Rattle.cedar_service.specs.Faults.{IsFault}
use Rattle.cedar_service.specs.Searched.{IsPageFor, IsUnfound, not_known}
use Rattle.cedar_service.proofs.Composed.{of_ok}
use Rattle.cedar_service.proofs.Unfound.{unfound_as}
use Rattle.cedar_service.proofs.searching.find.Goals as goal

pub returns-else-has_known_context : goal.returns-else-has_known_context
returns-else-has_known_context g c =
    let x = c.args.extensions.now in
    of_ok (IsUnfound c.refuse.result)
    (IsPageFor c.args.bound (extensions_view x) (calls_of x) c.args.engine.now c.args.store.now c.args.pages.part c.args.request
    c.args.pages.after c.args.pages.most)
    (λ f h. not_known (sym c.has_known_context.ensures ∙ c.if-has_known_context.false)
    (unfound_as (IsFault (codes "$.context") (codes "an unknown stands in it")) c.refuse.result f c.refuse.ensures h))
    c.unfound.result c.unfound.ensures
