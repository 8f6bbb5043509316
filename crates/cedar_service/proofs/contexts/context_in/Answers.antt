use Rattle.std.proofs.Common.{Ok}
use Rattle.json.specs.Value.{value_view}
use Rattle.cedar_model.specs.Terms.{Text}
use Rattle.cedar_extensions.specs.Extensions.{extensions_view, calls_of}
use Rattle.cedar_requests.specs.Creations.{IsCreated}
use Rattle.cedar_restricted.specs.Views.{restricted_term}
use Rattle.cedar_json_reader.specs.SaidContexts.{context_said, IsContextOf}
use Rattle.cedar_service.specs.Asked.{levels, IsNoContext, IsNoContextOf, unmade}
use Rattle.cedar_service.specs.Faults.{IsFaultBelow, IsToldAs, IsOfJson}
use Rattle.cedar_service.proofs.Bare.{context_made, unsaid_json}
use Rattle.cedar_service.proofs.Composed.{of_ok, of_err, because, both}
use Rattle.cedar_service.proofs.contexts.context_in.Goals as goal

pub returns-in-Ok-clause-said : goal.returns-in-Ok-clause-said
returns-in-Ok-clause-said g c =
    let x = c.args.extensions.now in
    let j = value_view c.args.value.now in
    let t = restricted_term c.in-Ok.expr in
    of_ok (λ d. IsCreated (extensions_view x) (calls_of x) levels t (Ok d))
    (IsContextOf (extensions_view x) (calls_of x) levels (context_said j))
    (λ d h. context_made (extensions_view x) (calls_of x) j t d c.in-Ok.ensures.said h)
    c.evaluate-context.result c.evaluate-context.ensures.made

pub returns-in-Ok-clause-refused : goal.returns-in-Ok-clause-refused
returns-in-Ok-clause-refused g c =
    let x = c.args.extensions.now in
    let j = value_view c.args.value.now in
    let t = restricted_term c.in-Ok.expr in
    let No : Text → Type 0 = λ s. IsNoContextOf (extensions_view x) (calls_of x) t × IsFaultBelow c.args.path.now s in
    let Of : Text → Type 0 = λ s. IsNoContext (extensions_view x) (calls_of x) j × IsFaultBelow c.args.path.now s in
    of_err (IsToldAs No) (IsToldAs Of) (because No Of (λ s h. (unmade t c.in-Ok.ensures.said h.0, h.1)))
    c.evaluate-context.result c.evaluate-context.ensures.refused

pub returns-in-Err-clause-refused : goal.returns-in-Err-clause-refused
returns-in-Err-clause-refused g c =
    let x = c.args.extensions.now in
    let j = value_view c.args.value.now in
    let e = c.in-Err.error in
    let r = c.refuse_json-refusal.result in
    both (λ _. IsNoContext (extensions_view x) (calls_of x) j) (IsFaultBelow c.args.path.now) r
    (because (λ _. IsOfJson e) (λ _. IsNoContext (extensions_view x) (calls_of x) j)
    (λ s h. unsaid_json (extensions_view x) (calls_of x) j e c.in-Err.ensures.refused h) r
    c.refuse_json-refusal.ensures.json) c.refuse_json-refusal.ensures.fault
