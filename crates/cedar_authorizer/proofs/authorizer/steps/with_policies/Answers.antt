use Rattle.std.proofs.Common.{refl}
use Rattle.cedar_extensions.specs.Extensions.{calls_of}
use Rattle.cedar_layers.specs.Stores.{store_view}
use Rattle.cedar_requests.specs.Requests.{request_view}
use Rattle.cedar_requests.specs.Substitutions.{values_for}
use Rattle.cedar_authorizer.specs.reauthorization.Concretizations.{IsConcrete}
use Rattle.cedar_authorizer.specs.Configured.{configuration, extensions_of, limit_of, mode_of}
use Rattle.cedar_authorizer.specs.Responding.{considered}
use Rattle.cedar_authorizer.specs.Steps.{step_by, under, IsDecidedAgain}
use Rattle.cedar_authorizer.proofs.Joined.{decided_request, refused_request}
use Rattle.cedar_authorizer.proofs.authorizer.steps.with_policies.Goals as goal

pub returns-in_ok-decided_again-in-Ok-clause-step : goal.returns-in_ok-decided_again-in-Ok-clause-step
returns-in_ok-decided_again-in-Ok-clause-step g c =
    let old = request_view c.args.request.now in
    let s = under (configuration c.args.authorizer.now) (step_by c.args.map.now c.args.entities.now) old in
    let z = c.in_ok-decided_again-in-Ok.ensures in
    decided_request (mode_of c.args.authorizer.now) s (calls_of (extensions_of c.args.authorizer.now)) (limit_of c.args.authorizer.now) (values_for c.args.map.now.entries) (store_view c.args.entities.now) old (considered c.args.policies.now) _ c.in-Ok.request z.request (c.in-Ok.ensures.concrete s refl) z.run

pub returns-in-Err-clause-step : goal.returns-in-Err-clause-step
returns-in-Err-clause-step g c =
    let old = request_view c.args.request.now in
    let by = step_by c.args.map.now c.args.entities.now in
    let s = under (configuration c.args.authorizer.now) by old in
    let calls = calls_of (extensions_of c.args.authorizer.now) in
    let levels = limit_of c.args.authorizer.now in
    refused_request (IsConcrete s calls levels (values_for c.args.map.now.entries) old) (IsDecidedAgain (configuration c.args.authorizer.now) by old (considered c.args.policies.now)) (λ x h. h) c.in-Err.error c.from.result c.from.ensures (c.in-Err.ensures.concrete s refl)
