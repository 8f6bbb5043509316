use Rattle.cedar_model.specs.Agreement.{IsValue}
use Rattle.cedar_extensions.specs.Extensions.{extensions_view, calls_of}
use Rattle.cedar_faithful.proofs.Stored.{alike_holds}
use Rattle.cedar_service.specs.Started.{IsClosedStore, IsStoreSaid, IsCyclicAmong, IsStoreFailure}
use Rattle.cedar_service.proofs.Composed.{of_ok, of_err}
use Rattle.cedar_service.proofs.Started.{unread_failure, cyclic_failure}
use Rattle.cedar_service.proofs.engine.read_store.Goals as goal

pub returns-in-Ok-clause-said : goal.returns-in-Ok-clause-said
returns-in-Ok-clause-said g c =
    let x = c.args.extensions.now in
    let es = c.in-Ok.entities.items in
    of_ok (IsClosedStore es) (IsStoreSaid (extensions_view x) (calls_of x) c.args.text.now)
    (λ s h. record {
      entities = es;
      said = c.in-Ok.ensures.made;
      closed = h;
      known = alike_holds IsValue s es c.in-Ok.ensures.known h.entities;
    }) c.close.result c.close.ensures.closed

pub returns-in-Ok-clause-refused : goal.returns-in-Ok-clause-refused
returns-in-Ok-clause-refused g c =
    let x = c.args.extensions.now in
    let es = c.in-Ok.entities.items in
    of_err (IsCyclicAmong es) (IsStoreFailure (extensions_view x) (calls_of x) c.args.text.now)
    (cyclic_failure (extensions_view x) (calls_of x) c.args.text.now es c.in-Ok.ensures.made)
    c.close.result c.close.ensures.cycle

pub returns-in-Err-clause-refused : goal.returns-in-Err-clause-refused
returns-in-Err-clause-refused g c =
    let x = c.args.extensions.now in
    unread_failure (extensions_view x) (calls_of x) c.args.text.now c.in-Err.error c.unread.result
    c.in-Err.ensures.refused c.unread.ensures
