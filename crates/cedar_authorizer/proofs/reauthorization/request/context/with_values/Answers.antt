use Rattle.std.proofs.Common.{sym, subst, Ok, Err}
use Rattle.cedar_extensions.specs.Extensions.{calls_of}
use Rattle.cedar_model.specs.Chains.{SubstitutesTo}
use Rattle.cedar_requests.specs.Contexts.{context_view}
use Rattle.cedar_requests.specs.Requests.{context_given}
use Rattle.cedar_requests.specs.Substitutions.{values_for, IsSubstituted}
use Rattle.cedar_authorizer.specs.reauthorization.Concretizations.{IsResidualNoHigher}
use Rattle.cedar_authorizer.proofs.Contexts.{values_refused, low_refused, low_context, value_unwrapped}
use Rattle.cedar_authorizer.proofs.reauthorization.request.context.with_values.Goals as goal

pub returns-in-Ok-clause-values : goal.returns-in-Ok-clause-values
returns-in-Ok-clause-values g c = λ s has.
    subst (λ o. SubstitutesTo s (calls_of c.args.extensions.now) c.args.limit (values_for c.args.map.now.entries)
    (context_given o) (Ok (context_view c.in-Ok.context))) (sym c.in-Some.is)
    (c.in-Ok.ensures.substituted s has (λ w. absurd (cc)))

pub returns-in-Err-clause-values : goal.returns-in-Err-clause-values
returns-in-Err-clause-values g c = λ s has.
    let calls = calls_of c.args.extensions.now in
    let m = values_for c.args.map.now.entries in
    values_refused s calls c.args.limit m (context_given c.args.context) c.in-Err.error c.from.result c.from.ensures
    (subst (λ o. IsSubstituted s calls c.args.limit m (context_given o) (Err c.in-Err.error)) (sym c.in-Some.is)
    (c.in-Err.ensures.substituted s has))

pub returns-in-Err-clause-low : goal.returns-in-Err-clause-low
returns-in-Err-clause-low g c = λ low.
    let m = values_for c.args.map.now.entries in
    low_refused c.in-Err.error c.from.result c.from.ensures
    (low_context m c.args.limit c.in-Some.context c.in-Err.error c.in-Err.ensures.values c.in-Err.ensures.low
    (subst (λ o. IsResidualNoHigher m c.args.limit (context_given o)) c.in-Some.is low))

pub returns-in-Err-clause-memory : goal.returns-in-Err-clause-memory
returns-in-Err-clause-memory g c = value_unwrapped c.in-Err.error c.from.result c.from.ensures
