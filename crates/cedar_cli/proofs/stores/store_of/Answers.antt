use Rattle.cedar_extensions.specs.Extensions.{extensions_view, calls_of}
use Rattle.cedar_cli.specs.Reasons.{AreNotClosed, AreEntitiesUnread, left_unclosed}
use Rattle.cedar_cli.proofs.Reasoned.{because}
use Rattle.cedar_cli.proofs.stores.store_of.Goals as goal

pub returns-in-Err-closed_store-clause-refused : goal.returns-in-Err-closed_store-clause-refused
returns-in-Err-closed_store-clause-refused g c =
    let x = c.args.extensions.now in
    let given = c.args.given in
    because (AreNotClosed c.in-Ok.entities.items given.max_ancestors)
    (AreEntitiesUnread (extensions_view x) (calls_of x) given.source.text.now given.max_ancestors)
    (λ h. left_unclosed
    (record { entities = c.in-Ok.entities.items; said = c.in-Ok.ensures.made; not_closed = h }))
    c.in-Err-closed_store.refusal c.in-Err-closed_store.ensures.refused
