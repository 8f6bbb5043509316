use Rattle.cedar_extensions.specs.Extensions.{extensions_view, calls_of}
use Rattle.cedar_service.specs.Left.{IsRemainderOf, LeavesFor}
use Rattle.cedar_service.proofs.Composed.{of_ok}
use Rattle.cedar_service.proofs.leaving.remainder.Goals as goal

pub returns : goal.returns
returns g c =
    let x = c.args.extensions.now in
    of_ok (IsRemainderOf c.in_ok-response.response)
    (LeavesFor (extensions_view x) (calls_of x) c.args.engine.now c.args.store.now c.args.request)
    (λ o h. (c.in_ok-response.response, c.in_ok-response.ensures, h))
    c.remainder_of-remainder.result c.remainder_of-remainder.ensures
