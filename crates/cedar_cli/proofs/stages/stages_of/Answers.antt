use Rattle.std.proofs.Common.{◌≡◌, refl, sym, subst, ◌∙◌}
use Rattle.cedar_model.specs.Configurations.{Configuration, configured}
use Rattle.cedar_model.specs.Settings.{shallow}
use Rattle.cedar_decisions.specs.Decisions.{mode_view}
use Rattle.cedar_extensions.specs.Extensions.{extensions_view, calls_of}
use Rattle.cedar_layers.specs.Stores.{store_view}
use Rattle.cedar_requests.specs.Requests.{request_view}
use Rattle.cedar_authorizer.specs.ByHand.{BeginsChains, EndsWithHeadline}
use Rattle.cedar_authorizer.specs.Configured.{configuration, asked_of, extensions_of, limit_of, mode_of, resolution_of}
use Rattle.cedar_authorizer.specs.Responding.{considered}
use Rattle.cedar_authorizer.specs.Running.{request_of, IsRun}
use Rattle.cedar_authorizer.proofs.Further.{begins, ends}
use Rattle.cedar_cli.specs.Inputs.{AreInputs, AreAllTaken}
use Rattle.cedar_cli.specs.Stages.{partial_configuration, levels_in}
use Rattle.cedar_cli.specs.Stopped.{AreStopped, AreNoStages, for_stop}
use Rattle.cedar_cli.proofs.Reasoned.{because}
use Rattle.cedar_cli.proofs.Staged.{are_stages}
use Rattle.cedar_cli.proofs.stages.stages_of.Goals as goal

pub returns-in-Ok-clause-stages : goal.returns-in-Ok-clause-stages
returns-in-Ok-clause-stages g c = λ ss are.
    let a = c.with_error_handling-authorizer.result in
    let x = c.args.extensions.now in
    let w = c.args.way in
    let made = c.with_error_handling-authorizer.ensures in
    let new = c.new.ensures in
    let own : extensions_of a ≡ x = made.extensions ∙ new.extensions in
    let mode : mode_of a ≡ mode_view w.error_handling = made.mode in
    let resolution : resolution_of a ≡ shallow = made.resolution ∙ new.resolution in
    let limit : limit_of a ≡ levels_in w.limit = made.limit ∙ new.limit ∙ c.levels_within.ensures in
    let same : configuration a ≡ partial_configuration (extensions_view x) (calls_of x) w =
    λ i. configured (calls_of (own i)) (mode i) (resolution i) (extensions_view (own i)) (limit i) in
    let first = c.in_ok-first.first in
    let s = c.args.store.now.entities in
    let later = c.take_all.new.later.items in
    let asked = request_view (request_of first) in
    let ps = considered c.args.policies.now in
    let run = subst (λ d. IsRun d (asked_of d asked (store_view s)) ps first) same c.in_ok-first.ensures.run in
    let inputs = subst (λ (d : Configuration). AreInputs d.extensions d.calls ss c.args.inputs.now) (sym same) are in
    let all = subst (λ d. AreAllTaken d first s ss later) same (c.in-Ok.ensures.taken ss inputs c.new-later.ensures.items) in
    are_stages (partial_configuration (extensions_view x) (calls_of x) w)
    (λ r. subst (λ d. BeginsChains d r) same (begins a r)) (λ r. subst (λ d. EndsWithHeadline d r) same (ends a r))
    c.args.policies.now s c.args.asked.now ss first later c.in_ok-first.ensures.request run all

pub returns-in-Err-clause-refused : goal.returns-in-Err-clause-refused
returns-in-Err-clause-refused g c = λ ss are.
    let a = c.with_error_handling-authorizer.result in
    let x = c.args.extensions.now in
    let w = c.args.way in
    let made = c.with_error_handling-authorizer.ensures in
    let new = c.new.ensures in
    let own : extensions_of a ≡ x = made.extensions ∙ new.extensions in
    let mode : mode_of a ≡ mode_view w.error_handling = made.mode in
    let resolution : resolution_of a ≡ shallow = made.resolution ∙ new.resolution in
    let limit : limit_of a ≡ levels_in w.limit = made.limit ∙ new.limit ∙ c.levels_within.ensures in
    let same : configuration a ≡ partial_configuration (extensions_view x) (calls_of x) w =
    λ i. configured (calls_of (own i)) (mode i) (resolution i) (extensions_view (own i)) (limit i) in
    let first = c.in_ok-first.first in
    let s = c.args.store.now.entities in
    let ps = considered c.args.policies.now in
    let run = subst (λ d. IsRun d (asked_of d (request_view (request_of first)) (store_view s)) ps first) same
    c.in_ok-first.ensures.run in
    let inputs = subst (λ (d : Configuration). AreInputs d.extensions d.calls ss c.args.inputs.now) (sym same) are in
    because (AreStopped (configuration a) first s ss)
    (AreNoStages (partial_configuration (extensions_view x) (calls_of x) w) ps s c.args.asked.now ss)
    (λ h. for_stop (record {
      first = first;
      request_is = c.in_ok-first.ensures.request;
      begins = run;
      stopped = subst (λ d. AreStopped d first s ss) same h;
    }))
    c.in-Err.refusal (c.in-Err.ensures.stopped ss inputs c.new-later.ensures.items)
