use Rattle.std.proofs.Common.{subst}
use Rattle.cedar_model.specs.Agreement.{AgreesWithFunctions}
use Rattle.cedar_extensions.specs.Extensions.{extensions_view, calls_of}
use Rattle.cedar_functions.specs.Functions.{these, signatures_of}
use Rattle.cedar_standard_functions.specs.Standard.{standard_answers}
use Rattle.cedar_service.specs.Standard.{standard_extensions, standard_calls, standard_knowledge}
use Rattle.cedar_service.specs.Started.{IsEngineWith, IsEngineOf, IsFailure, IsNotStarted}
use Rattle.cedar_service.proofs.Alone.{calls_alone, view_alone, known_alone}
use Rattle.cedar_service.proofs.Composed.{of_ok, of_err}
use Rattle.cedar_service.specs.Engines.{entities_of}
use Rattle.cedar_service.proofs.Exact.{exactly, searched}
use Rattle.cedar_service.proofs.KnownStores.{asked_untouched, brought_alone}
use Rattle.cedar_service.proofs.engine.Engine.of_texts.Goals as goal

pub returns-clause-engine : goal.returns-clause-engine
returns-clause-engine c =
    let x = c.all_available-extensions.result in
    let none = c.all_available-extensions.ensures.extensions in
    let there = c.all_available-extensions.ensures.standard in
    let p = c.args.policies.now in
    let t = c.args.entities.now in
    let agree : AgreesWithFunctions standard_answers standard_calls =
    subst (λ calls. AgreesWithFunctions standard_answers calls) (calls_alone x none there)
    c.all_available-extensions.ensures.agrees in
    of_ok (IsEngineWith (these (signatures_of x)) (extensions_view x) (calls_of x) p t) (IsEngineOf p t)
    (λ e h.
    let known = subst (λ k. IsEngineWith k (extensions_view x) (calls_of x) p t e) (known_alone x none there) h in
    let viewed = subst (λ v. IsEngineWith standard_knowledge v (calls_of x) p t e) (view_alone x none there) known in
    let has = subst (λ calls. IsEngineWith standard_knowledge standard_extensions calls p t e) (calls_alone x none there)
    viewed in
    record {
      has = has;
      exact = exactly c.known_calls_of_policies.ensures.policies c.functions_are_computed.ensures.nothing_asked agree
          standard_knowledge p t e has;
      searches = searched standard_knowledge p t e has;
      untouched = λ w q s none is. asked_untouched w (entities_of e) q s none is;
      alone = λ w text s none is. brought_alone w (entities_of e) text s none is;
    })
    c.engine_of_texts.result c.engine_of_texts.ensures.engine

pub returns-clause-refused : goal.returns-clause-refused
returns-clause-refused c =
    let x = c.all_available-extensions.result in
    let none = c.all_available-extensions.ensures.extensions in
    let there = c.all_available-extensions.ensures.standard in
    let p = c.args.policies.now in
    let t = c.args.entities.now in
    of_err (IsFailure (these (signatures_of x)) (extensions_view x) (calls_of x) p t) (IsNotStarted p t)
    (λ f h.
    subst (λ calls. IsFailure standard_knowledge standard_extensions calls p t f) (calls_alone x none there)
    (subst (λ v. IsFailure standard_knowledge v (calls_of x) p t f) (view_alone x none there)
    (subst (λ k. IsFailure k (extensions_view x) (calls_of x) p t f) (known_alone x none there) h)))
    c.engine_of_texts.result c.engine_of_texts.ensures.refused
