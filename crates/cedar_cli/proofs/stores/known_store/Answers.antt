use Rattle.std.proofs.Common.{◌≡◌, sym, subst, false, Option, Some, None, Result, IfOk}
use Rattle.cedar_model.specs.Agreement.{IsValue, EachStored}
use Rattle.cedar_extensions.specs.Extensions.{extensions_view, calls_of}
use Rattle.cedar_layers.specs.Stores.{no_entities, store_view}
use Rattle.cedar_cli.specs.declared.asked.Source.{Source}
use Rattle.cedar_cli.specs.declared.stores.Store.{Store}
use Rattle.cedar_cli.specs.Questions.{IsStoreSaid, IsKnownStoreOf}
use Rattle.cedar_cli.proofs.Composed.{of_ok, of_two}
use Rattle.cedar_cli.proofs.KnownStores.{said_known, none_known}
use Rattle.cedar_cli.proofs.stores.known_store.Goals as goal

pub returns-in-Some-clause-given : goal.returns-in-Some-clause-given
returns-in-Some-clause-given g c =
    let x = c.args.extensions.now in
    let t = c.in-Some.source in
    subst (λ (o : Option Source). IfOk c.known_store_of.result
    (λ (s : Store). IsKnownStoreOf (extensions_view x) (calls_of x) o s.entities)) (sym c.in-Some.is)
    (of_two (λ (s : Store). IsStoreSaid (extensions_view x) (calls_of x) t.text.now false s.entities)
    (λ s. EachStored IsValue (store_view s.entities))
    (λ s. IsKnownStoreOf (extensions_view x) (calls_of x) (Some t) s.entities)
    (λ s said known. said_known (extensions_view x) (calls_of x) t s.entities said known)
    c.known_store_of.result c.known_store_of.ensures.said c.known_store_of.ensures.known)

pub returns-in-Some-clause-refused : goal.returns-in-Some-clause-refused
returns-in-Some-clause-refused g c = rw c.in-Some.is c.known_store_of.ensures.refused

pub returns-in-None-clause-given : goal.returns-in-None-clause-given
returns-in-None-clause-given g c =
    let x = c.args.extensions.now in
    subst (λ (o : Option Source). IfOk c.no_entities.result
    (λ (s : Store). IsKnownStoreOf (extensions_view x) (calls_of x) o s.entities)) (sym c.in-None.is)
    (of_ok (λ (s : Store). store_view s.entities ≡ record { entity = no_entities; is_partial = false })
    (λ s. IsKnownStoreOf (extensions_view x) (calls_of x) None s.entities)
    (λ s is. none_known (extensions_view x) (calls_of x) s.entities is)
    c.no_entities.result c.no_entities.ensures.given)
