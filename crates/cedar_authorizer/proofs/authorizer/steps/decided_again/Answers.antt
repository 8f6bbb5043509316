use Rattle.cedar_extensions.specs.Extensions.{calls_of}
use Rattle.cedar_layers.specs.PolicySets.{stored_policies}
use Rattle.cedar_requests.specs.Requests.{request_view}
use Rattle.cedar_authorizer.specs.Configured.{configuration, extensions_of, limit_of, mode_of}
use Rattle.cedar_authorizer.specs.Steps.{step_by, under}
use Rattle.cedar_authorizer.proofs.Noting.{if_in_mode, is_run, residual_permits_are, residual_forbids_are}
use Rattle.cedar_authorizer.proofs.Placed.{residuals_stand}
use Rattle.cedar_authorizer.proofs.authorizer.steps.decided_again.Goals as goal

pub returns-clause-run : goal.returns-clause-run
returns-clause-run g c =
    let s = under (configuration c.args.authorizer.now) (step_by c.args.map.now c.args.entities.now) (request_view c.args.request) in
    if_in_mode (mode_of c.args.authorizer.now) c.response_of.result _ (λ r m k. is_run (mode_of c.args.authorizer.now) s (calls_of (extensions_of c.args.authorizer.now)) (limit_of c.args.authorizer.now) c.args.policies.now c.in_ok-sheet.sheet r c.in_ok-sheet.ensures.run m k) c.response_of.ensures.mode c.response_of.ensures.kept

pub returns-clause-residual_places : goal.returns-clause-residual_places
returns-clause-residual_places g c =
    let s = under (configuration c.args.authorizer.now) (step_by c.args.map.now c.args.entities.now) (request_view c.args.request) in
    let mode = mode_of c.args.authorizer.now in
    let calls = calls_of (extensions_of c.args.authorizer.now) in
    let levels = limit_of c.args.authorizer.now in
    let on = c.in_ok-sheet.ensures.run in
    if_in_mode mode c.response_of.result _ (λ r m k. residuals_stand (stored_policies c.args.policies.now) c.in_ok-sheet.sheet r
    (residual_permits_are mode s calls levels c.args.policies.now c.in_ok-sheet.sheet r on k)
    (residual_forbids_are mode s calls levels c.args.policies.now c.in_ok-sheet.sheet r on k) c.in_ok-sheet.ensures.places) c.response_of.ensures.mode c.response_of.ensures.kept
