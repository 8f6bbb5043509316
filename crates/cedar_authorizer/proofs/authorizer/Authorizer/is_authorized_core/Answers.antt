use Rattle.cedar_extensions.specs.Extensions.{calls_of}
use Rattle.cedar_extensions.specs.StoredLaws.{calls_meet_no_limit}
use Rattle.cedar_authorizer.specs.Configured.{extensions_of, limit_of, mode_of, asked}
use Rattle.cedar_authorizer.specs.Responding.{considered}
use Rattle.cedar_layers.specs.PolicySets.{stored_policies}
use Rattle.cedar_authorizer.proofs.Noting.{if_in_mode, is_run, residual_permits_are, residual_forbids_are}
use Rattle.cedar_authorizer.proofs.Placed.{residuals_stand}
use Rattle.cedar_authorizer.proofs.Deciding.{run_stands, run_low, known_partly, known_meets_no_limit}
use Rattle.cedar_authorizer.proofs.Kept.{asked_sound}
use Rattle.cedar_authorizer.proofs.authorizer.Authorizer.is_authorized_core.Goals as goal

pub returns-clause-run : goal.returns-clause-run
returns-clause-run g c =
    let mode = mode_of c.args.self.now in
    let calls = calls_of (extensions_of c.args.self.now) in
    let levels = limit_of c.args.self.now in
    let s = asked c.args.self.now c.args.request c.args.entities.now in
    let ps = considered c.args.policies.now in
    if_in_mode mode c.response_of.result _ (λ r m k. (is_run mode s calls levels c.args.policies.now c.in_ok-sheet.sheet r c.in_ok-sheet.ensures.run m k)) c.response_of.ensures.mode c.response_of.ensures.kept

pub returns-clause-stands : goal.returns-clause-stands
returns-clause-stands g c =
    let mode = mode_of c.args.self.now in
    let calls = calls_of (extensions_of c.args.self.now) in
    let levels = limit_of c.args.self.now in
    let s = asked c.args.self.now c.args.request c.args.entities.now in
    let ps = considered c.args.policies.now in
    if_in_mode mode c.response_of.result _ (λ r m k. run_stands mode s calls levels ps r (is_run mode s calls levels c.args.policies.now c.in_ok-sheet.sheet r c.in_ok-sheet.ensures.run m k)) c.response_of.ensures.mode c.response_of.ensures.kept

pub returns-clause-known : goal.returns-clause-known
returns-clause-known g c =
    let mode = mode_of c.args.self.now in
    let calls = calls_of (extensions_of c.args.self.now) in
    let levels = limit_of c.args.self.now in
    let s = asked c.args.self.now c.args.request c.args.entities.now in
    let ps = considered c.args.policies.now in
    if_in_mode mode c.response_of.result _ (λ r m k. known_partly mode s calls levels ps r (is_run mode s calls levels c.args.policies.now c.in_ok-sheet.sheet r c.in_ok-sheet.ensures.run m k)) c.response_of.ensures.mode c.response_of.ensures.kept

pub returns-clause-limit : goal.returns-clause-limit
returns-clause-limit g c =
    let mode = mode_of c.args.self.now in
    let calls = calls_of (extensions_of c.args.self.now) in
    let levels = limit_of c.args.self.now in
    let s = asked c.args.self.now c.args.request c.args.entities.now in
    let ps = considered c.args.policies.now in
    if_in_mode mode c.response_of.result _ (λ r m k. known_meets_no_limit mode s calls levels ps r (is_run mode s calls levels c.args.policies.now c.in_ok-sheet.sheet r c.in_ok-sheet.ensures.run m k)) c.response_of.ensures.mode c.response_of.ensures.kept

pub returns-clause-deep_enough : goal.returns-clause-deep_enough
returns-clause-deep_enough g c =
    let mode = mode_of c.args.self.now in
    let calls = calls_of (extensions_of c.args.self.now) in
    let levels = limit_of c.args.self.now in
    let s = asked c.args.self.now c.args.request c.args.entities.now in
    let ps = considered c.args.policies.now in
    if_in_mode mode c.response_of.result _ (λ r m k. run_low mode s calls levels ps r (calls_meet_no_limit (extensions_of c.args.self.now)) (asked_sound c.args.self.now c.args.request c.args.entities.now) (is_run mode s calls levels c.args.policies.now c.in_ok-sheet.sheet r c.in_ok-sheet.ensures.run m k)) c.response_of.ensures.mode c.response_of.ensures.kept

pub returns-clause-places : goal.returns-clause-places
returns-clause-places g c =
    let mode = mode_of c.args.self.now in
    let calls = calls_of (extensions_of c.args.self.now) in
    let levels = limit_of c.args.self.now in
    let s = asked c.args.self.now c.args.request c.args.entities.now in
    let on = c.in_ok-sheet.ensures.run in
    if_in_mode mode c.response_of.result _ (λ r m k. residuals_stand (stored_policies c.args.policies.now) c.in_ok-sheet.sheet r
    (residual_permits_are mode s calls levels c.args.policies.now c.in_ok-sheet.sheet r on k)
    (residual_forbids_are mode s calls levels c.args.policies.now c.in_ok-sheet.sheet r on k) c.in_ok-sheet.ensures.places) c.response_of.ensures.mode c.response_of.ensures.kept
