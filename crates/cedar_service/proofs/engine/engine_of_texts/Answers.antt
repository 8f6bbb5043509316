use Rattle.std.proofs.Common.{◌≡◌, sym, subst}
use Rattle.cedar_extensions.specs.Extensions.{extensions_view, calls_of}
use Rattle.cedar_functions.specs.Functions.{these, signatures_of}
use Rattle.cedar_text_parser.specs.PolicyHeights.{with_scope, AreAllNoHigher}
use Rattle.cedar_text_parser.specs.PolicyReading.{AreAllRead}
use Rattle.cedar_service.specs.Asked.{levels}
use Rattle.cedar_service.specs.Candidates.{AreCandidates}
use Rattle.cedar_service.specs.Versions.{version_text}
use Rattle.cedar_service.specs.Engines.{read_policies, policies_of, entities_of, candidates_of, version_of}
use Rattle.cedar_service.specs.Started.{IsEngineWith, IsStoreSaid, IsStoreFailure, IsFailure}
use Rattle.cedar_service.proofs.Composed.{of_four, of_err}
use Rattle.cedar_service.proofs.Started.{store_failure, policies_failure}
use Rattle.cedar_service.proofs.engine.engine_of_texts.Goals as goal

pub returns-in-Ok-clause-engine : goal.returns-in-Ok-clause-engine
returns-in-Ok-clause-engine g c =
    let x = c.args.extensions.now in
    let k = these (signatures_of x) in
    let parsed = c.in-Ok.parsed in
    of_four (λ e. read_policies e ≡ parsed)
    (λ e. IsStoreSaid (extensions_view x) (calls_of x) c.args.entities.now (entities_of e))
    (λ e. AreCandidates (policies_of e) (entities_of e) (candidates_of e))
    (λ e. version_of e ≡ version_text c.args.policies.now c.args.entities.now)
    (IsEngineWith k (extensions_view x) (calls_of x) c.args.policies.now c.args.entities.now)
    (λ e same store candidates version. record {
      policies_are = subst (λ p. AreAllRead k c.args.policies.now levels p) (sym same) c.in-Ok.ensures.read;
      low = subst (λ p. AreAllNoHigher (with_scope levels) p) (sym same) c.in-Ok.ensures.low;
      store_is = store;
      candidates_are = candidates;
      version_is = version;
    }) c.with_store.result c.with_store.ensures.policies c.with_store.ensures.entities c.with_store.ensures.candidates
    c.with_store.ensures.version

pub returns-in-Ok-clause-refused : goal.returns-in-Ok-clause-refused
returns-in-Ok-clause-refused g c =
    let x = c.args.extensions.now in
    let k = these (signatures_of x) in
    of_err (IsStoreFailure (extensions_view x) (calls_of x) c.args.entities.now)
    (IsFailure k (extensions_view x) (calls_of x) c.args.policies.now c.args.entities.now)
    (store_failure (extensions_view x) (calls_of x) c.args.entities.now k c.args.policies.now)
    c.with_store.result c.with_store.ensures.refused

pub returns-in-Err-clause-refused : goal.returns-in-Err-clause-refused
returns-in-Err-clause-refused g c =
    let x = c.args.extensions.now in
    policies_failure (extensions_view x) (calls_of x) c.args.entities.now (these (signatures_of x)) c.args.policies.now
    c.in-Err.failure c.in-Err.ensures.refused
