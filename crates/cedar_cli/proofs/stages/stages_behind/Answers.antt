use Rattle.std.proofs.Common.{◌≡◌, sym, subst, ◌∙◌}
use Rattle.cedar_model.specs.Configurations.{Configuration, configured}
use Rattle.cedar_model.specs.Settings.{shallow}
use Rattle.cedar_decisions.specs.Decisions.{mode_view}
use Rattle.cedar_extensions.specs.Extensions.{extensions_view, calls_of}
use Rattle.cedar_authorizer.specs.Configured.{configuration, extensions_of, limit_of, mode_of, resolution_of}
use Rattle.cedar_cli.specs.Inputs.{AreInputs, AreAllTaken}
use Rattle.cedar_cli.specs.Stages.{partial_configuration, levels_in}
use Rattle.cedar_cli.specs.Stopped.{AreStopped, AreNotTakenFrom, stopped_from}
use Rattle.cedar_cli.proofs.Reasoned.{because}
use Rattle.cedar_cli.proofs.stages.stages_behind.Goals as goal

pub returns-in-Ok-clause-taken : goal.returns-in-Ok-clause-taken
returns-in-Ok-clause-taken g c = λ ss are.
    let a = c.with_error_handling-authorizer.result in
    let x = c.args.extensions.now in
    let w = c.args.way in
    let made = c.with_error_handling-authorizer.ensures in
    let new = c.new.ensures in
    let own : extensions_of a ≡ x = made.extensions ∙ new.extensions in
    let mode : mode_of a ≡ mode_view w.error_handling = made.mode in
    let resolution : resolution_of a ≡ shallow = made.resolution ∙ new.resolution in
    let limit : limit_of a ≡ levels_in w.limit = made.limit ∙ new.limit ∙ c.levels_within.ensures in
    let same : configuration a ≡ partial_configuration (extensions_view x) (calls_of x) w =
    λ i. configured (calls_of (own i)) (mode i) (resolution i) (extensions_view (own i)) (limit i) in
    let first = c.args.first in
    let s = c.args.store.now.entities in
    let later = c.take_all.new.later.items in
    let inputs = subst (λ (d : Configuration). AreInputs d.extensions d.calls ss c.args.inputs.now) (sym same) are in
    let all = subst (λ d. AreAllTaken d first s ss later) same (c.in-Ok.ensures.taken ss inputs c.new-later.ensures.items) in
    record { last_store = all.last_store; chain = all.chain; steps_are = all.steps_are; taken = all.taken }

pub returns-in-Err-clause-refused : goal.returns-in-Err-clause-refused
returns-in-Err-clause-refused g c = λ ss are.
    let a = c.with_error_handling-authorizer.result in
    let x = c.args.extensions.now in
    let w = c.args.way in
    let made = c.with_error_handling-authorizer.ensures in
    let new = c.new.ensures in
    let own : extensions_of a ≡ x = made.extensions ∙ new.extensions in
    let mode : mode_of a ≡ mode_view w.error_handling = made.mode in
    let resolution : resolution_of a ≡ shallow = made.resolution ∙ new.resolution in
    let limit : limit_of a ≡ levels_in w.limit = made.limit ∙ new.limit ∙ c.levels_within.ensures in
    let same : configuration a ≡ partial_configuration (extensions_view x) (calls_of x) w =
    λ i. configured (calls_of (own i)) (mode i) (resolution i) (extensions_view (own i)) (limit i) in
    let first = c.args.first in
    let s = c.args.store.now.entities in
    let inputs = subst (λ (d : Configuration). AreInputs d.extensions d.calls ss c.args.inputs.now) (sym same) are in
    because (AreStopped (configuration a) first s ss)
    (AreNotTakenFrom (partial_configuration (extensions_view x) (calls_of x) w) first s ss)
    (λ h. stopped_from (subst (λ d. AreStopped d first s ss) same h))
    c.in-Err.refusal (c.in-Err.ensures.stopped ss inputs c.new-later.ensures.items)
