use Rattle.cedar_model.specs.Failures.{recursion_limit, out_of_memory}
use Rattle.cedar_extensions.specs.Extensions.{calls_of}
use Rattle.cedar_requests.specs.Requests.{request_view}
use Rattle.cedar_requests.specs.Substitutions.{values_for}
use Rattle.cedar_authorizer.specs.reauthorization.Errors.{refusal_of, answer_by}
use Rattle.cedar_authorizer.proofs.Concretizing.{then_values, then_refused, low_request, map_refused}
use Rattle.cedar_authorizer.proofs.reauthorization.request.concretize_request.Goals as goal

pub returns-in-Ok-clause-concrete : goal.returns-in-Ok-clause-concrete
returns-in-Ok-clause-concrete g c = λ s has.
    then_values s (calls_of c.args.extensions.now) c.args.limit (values_for c.args.map.now.entries) _
    (request_view c.in-Ok.mapped) (answer_by request_view c.substituted_request.result) c.in-Ok.ensures.view
    (c.substituted_request.ensures.values s has)

pub returns-in-Ok-clause-low : goal.returns-in-Ok-clause-low
returns-in-Ok-clause-low g c = λ low.
    c.substituted_request.ensures.low (low_request (values_for c.args.map.now.entries) c.args.limit
    (request_view c.args.request.now) (request_view c.in-Ok.mapped) c.in-Ok.ensures.view low)

pub returns-in-Err-clause-concrete : goal.returns-in-Err-clause-concrete
returns-in-Err-clause-concrete g c = λ s has.
    then_refused s (calls_of c.args.extensions.now) c.args.limit (values_for c.args.map.now.entries) _
    (refusal_of c.in-Err.error) c.in-Err.ensures.view

pub returns-in-Err-clause-low : goal.returns-in-Err-clause-low
returns-in-Err-clause-low g c = λ low.
    map_refused recursion_limit (values_for c.args.map.now.entries) (request_view c.args.request.now)
    (refusal_of c.in-Err.error) c.in-Err.ensures.view

pub returns-in-Err-clause-memory : goal.returns-in-Err-clause-memory
returns-in-Err-clause-memory g c =
    map_refused out_of_memory (values_for c.args.map.now.entries) (request_view c.args.request.now)
    (refusal_of c.in-Err.error) c.in-Err.ensures.view
