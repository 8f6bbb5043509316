use Rattle.cedar_extensions.specs.Extensions.{calls_of}
use Rattle.cedar_extensions.specs.StoredLaws.{calls_meet_no_limit}
use Rattle.cedar_layers.specs.Stores.{store_view}
use Rattle.cedar_requests.specs.Substitutions.{values_for}
use Rattle.cedar_requests.proofs.Soundness.{request_is_sound}
use Rattle.cedar_authorizer.specs.Configured.{configuration, extensions_of, limit_of, mode_of}
use Rattle.cedar_authorizer.specs.Running.{request_of}
use Rattle.cedar_authorizer.specs.Steps.{response_said, step_by, under}
use Rattle.cedar_authorizer.proofs.Kept.{values_sound, step_sound}
use Rattle.cedar_authorizer.proofs.Stepped.{kept_completing, kept_standing, nothing_back, step_finishes, answered_low, if_stepped}
use Rattle.cedar_authorizer.proofs.responses.partial_response.PartialResponse.reauthorize.Goals as goal

pub returns-then-is_same_mode-clause-completes : goal.returns-then-is_same_mode-clause-completes
returns-then-is_same_mode-clause-completes g c =
    let old = response_said c.args.self.now in
    let s = under (configuration c.args.authorizer.now) (step_by c.args.map.now c.args.entities.now) old.request in
    let mode = mode_of c.args.authorizer.now in
    let calls = calls_of (extensions_of c.args.authorizer.now) in
    let levels = limit_of c.args.authorizer.now in
    let m = values_for c.args.map.now.entries in
    let store = store_view c.args.entities.now in
    if_stepped c.in_same_mode.result _ _ (λ r. kept_completing mode s calls levels m store old r) c.in_same_mode.ensures.step

pub returns-then-is_same_mode-clause-stands : goal.returns-then-is_same_mode-clause-stands
returns-then-is_same_mode-clause-stands g c =
    let old = response_said c.args.self.now in
    let s = under (configuration c.args.authorizer.now) (step_by c.args.map.now c.args.entities.now) old.request in
    let mode = mode_of c.args.authorizer.now in
    let calls = calls_of (extensions_of c.args.authorizer.now) in
    let levels = limit_of c.args.authorizer.now in
    let m = values_for c.args.map.now.entries in
    let store = store_view c.args.entities.now in
    if_stepped c.in_same_mode.result _ _ (λ r. kept_standing mode s calls levels m store old r) c.in_same_mode.ensures.step

pub returns-then-is_same_mode-clause-kept : goal.returns-then-is_same_mode-clause-kept
returns-then-is_same_mode-clause-kept g c =
    let old = response_said c.args.self.now in
    let s = under (configuration c.args.authorizer.now) (step_by c.args.map.now c.args.entities.now) old.request in
    let mode = mode_of c.args.authorizer.now in
    let calls = calls_of (extensions_of c.args.authorizer.now) in
    let levels = limit_of c.args.authorizer.now in
    let m = values_for c.args.map.now.entries in
    let store = store_view c.args.entities.now in
    if_stepped c.in_same_mode.result _ _ (λ r. nothing_back mode s calls levels m store old r) c.in_same_mode.ensures.step

pub returns-then-is_same_mode-clause-finishes : goal.returns-then-is_same_mode-clause-finishes
returns-then-is_same_mode-clause-finishes g c =
    let old = response_said c.args.self.now in
    let s = under (configuration c.args.authorizer.now) (step_by c.args.map.now c.args.entities.now) old.request in
    let mode = mode_of c.args.authorizer.now in
    let calls = calls_of (extensions_of c.args.authorizer.now) in
    let levels = limit_of c.args.authorizer.now in
    let m = values_for c.args.map.now.entries in
    let store = store_view c.args.entities.now in
    if_stepped c.in_same_mode.result _ _ (λ r. step_finishes mode s calls levels m store old r
    (request_is_sound (request_of c.args.self.now)) (values_sound c.args.map.now)) c.in_same_mode.ensures.step

pub returns-then-is_same_mode-clause-deep_enough : goal.returns-then-is_same_mode-clause-deep_enough
returns-then-is_same_mode-clause-deep_enough g c =
    let old = response_said c.args.self.now in
    let s = under (configuration c.args.authorizer.now) (step_by c.args.map.now c.args.entities.now) old.request in
    let mode = mode_of c.args.authorizer.now in
    let calls = calls_of (extensions_of c.args.authorizer.now) in
    let levels = limit_of c.args.authorizer.now in
    let m = values_for c.args.map.now.entries in
    let store = store_view c.args.entities.now in
    answered_low mode s calls levels m store old (calls_meet_no_limit (extensions_of c.args.authorizer.now))
    (step_sound c.args.authorizer.now c.args.map.now c.args.entities.now (request_of c.args.self.now)) c.in_same_mode.result c.in_same_mode.ensures.step c.in_same_mode.ensures.low
