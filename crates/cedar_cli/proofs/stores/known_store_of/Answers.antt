use Rattle.std.proofs.Common.{subst, Bool}
use Rattle.cedar_model.specs.Agreement.{IsValue}
use Rattle.cedar_extensions.specs.Extensions.{extensions_view, calls_of}
use Rattle.cedar_faithful.proofs.Stored.{alike_holds}
use Rattle.cedar_cli.specs.Questions.{IsClosedAs, IsClosedStore}
use Rattle.cedar_cli.specs.Reasons.{AreNotClosed, AreKnownEntitiesUnread, known_unclosed}
use Rattle.cedar_cli.proofs.Reasoned.{because}
use Rattle.cedar_cli.proofs.stores.known_store_of.Goals as goal

pub returns-in-Ok-closed_store-clause-said : goal.returns-in-Ok-closed_store-clause-said
returns-in-Ok-closed_store-clause-said g c = record {
  entities = c.in-Ok.entities.items;
  said = c.in-Ok.ensures.made;
  closed = subst (λ (b : Bool). IsClosedAs b c.in-Ok.entities.items c.in-Ok-closed_store.entities) c.requires
      c.in-Ok-closed_store.ensures.closed;
}

pub returns-in-Ok-closed_store-clause-known : goal.returns-in-Ok-closed_store-clause-known
returns-in-Ok-closed_store-clause-known g c =
    let es = c.in-Ok.entities.items in
    let closed : IsClosedStore es c.in-Ok-closed_store.entities =
    subst (λ (b : Bool). IsClosedAs b es c.in-Ok-closed_store.entities) c.requires c.in-Ok-closed_store.ensures.closed in
    alike_holds IsValue c.in-Ok-closed_store.entities es c.in-Ok.ensures.known closed.entities

pub returns-in-Err-closed_store-clause-refused : goal.returns-in-Err-closed_store-clause-refused
returns-in-Err-closed_store-clause-refused g c =
    let x = c.args.extensions.now in
    let given = c.args.given in
    because (AreNotClosed c.in-Ok.entities.items given.max_ancestors)
    (AreKnownEntitiesUnread (extensions_view x) (calls_of x) given.source.text.now given.max_ancestors)
    (λ h. known_unclosed
    (record { entities = c.in-Ok.entities.items; said = c.in-Ok.ensures.made; not_closed = h }))
    c.in-Err-closed_store.refusal c.in-Err-closed_store.ensures.refused
