use Rattle.std.proofs.Common.{◌≡◌, sym, subst}
use Rattle.cedar_extensions.specs.Extensions.{extensions_view, calls_of}
use Rattle.cedar_service.specs.declared.engine.NotStarted.{NotStarted}
use Rattle.cedar_service.specs.declared.engine.NotStarted.TheVariants as failures
use Rattle.cedar_service.specs.Engines.{entities_of}
use Rattle.cedar_service.specs.Started.{IsStoreSaid, IsStoreFailure}
use Rattle.cedar_service.proofs.Composed.{of_ok, of_err}
use Rattle.cedar_service.proofs.engine.with_store.Goals as goal

pub returns-in-Ok-clause-entities : goal.returns-in-Ok-clause-entities
returns-in-Ok-clause-entities g c =
    let x = c.args.extensions.now in
    of_ok (λ e. entities_of e ≡ c.in-Ok.store)
    (λ e. IsStoreSaid (extensions_view x) (calls_of x) c.args.entities.now (entities_of e))
    (λ e same. subst (λ s. IsStoreSaid (extensions_view x) (calls_of x) c.args.entities.now s) (sym same)
    c.in-Ok.ensures.said) c.with_candidates.result c.with_candidates.ensures.entities

pub returns-in-Ok-clause-refused : goal.returns-in-Ok-clause-refused
returns-in-Ok-clause-refused g c =
    let x = c.args.extensions.now in
    of_err (λ f. f ≡ failures.Memory) (IsStoreFailure (extensions_view x) (calls_of x) c.args.entities.now)
    (λ f is. subst (λ (n : NotStarted). IsStoreFailure (extensions_view x) (calls_of x) c.args.entities.now n) (sym is) tt)
    c.with_candidates.result c.with_candidates.ensures.memory
