use Rattle.std.proofs.Common.{ap, sym, subst}
use Rattle.cedar_model.specs.Settings.{RequestPart}
use Rattle.cedar_extensions.specs.Extensions.{calls_of}
use Rattle.cedar_requests.specs.Requests.{request_view, context_given}
use Rattle.cedar_requests.specs.Substitutions.{values_for}
use Rattle.cedar_authorizer.specs.reauthorization.Errors.{refusal_of}
use Rattle.cedar_authorizer.specs.reauthorization.Concretizations.{IsResidualNoHigher}
use Rattle.cedar_authorizer.proofs.Concretizing.{values_made, values_refused}
use Rattle.cedar_authorizer.proofs.reauthorization.request.substituted_request.Goals as goal

pub returns-in-Ok-clause-values : goal.returns-in-Ok-clause-values
returns-in-Ok-clause-values g c = λ s has.
    values_made s (calls_of c.args.extensions.now) c.args.limit (values_for c.args.map.now.entries)
    (request_view c.args.request) _ _ (context_given c.in-Ok.context) c.into_parts-principal.ensures.view
    c.new_with_unknowns.ensures.view (c.in-Ok.ensures.values s has)

pub returns-in-Err-clause-values : goal.returns-in-Err-clause-values
returns-in-Err-clause-values g c = λ s has.
    values_refused s (calls_of c.args.extensions.now) c.args.limit (values_for c.args.map.now.entries)
    (request_view c.args.request) _ (refusal_of c.in-Err.error) c.into_parts-principal.ensures.view
    (c.in-Err.ensures.values s has)

pub returns-in-Err-clause-low : goal.returns-in-Err-clause-low
returns-in-Err-clause-low g c = λ low.
    c.in-Err.ensures.low (subst (IsResidualNoHigher (values_for c.args.map.now.entries) c.args.limit)
    (sym (ap (λ (r : RequestPart). r.context_part) c.into_parts-principal.ensures.view)) low)
