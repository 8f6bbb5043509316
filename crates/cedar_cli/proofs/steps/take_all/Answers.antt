use Rattle.std.proofs.Common.{◌≡◌, refl, suc, ◌+◌, ◌∷◌, drop, ap, sym, subst, ◌∙◌, arith}
use Rattle.std.proofs.Math.Seq.{drop-cons}
use Rattle.std.proofs.lemmas.List.{drop_all}
use Rattle.cedar_authorizer.specs.Configured.{configuration}
use Rattle.cedar_authorizer.proofs.Further.{goes_on}
use Rattle.cedar_cli.specs.Inputs.{store_or, IsTakenBy, IsHalted}
use Rattle.cedar_cli.specs.Reasons.{IsToldFor}
use Rattle.cedar_cli.specs.Stopped.{AreStopped}
use Rattle.cedar_cli.proofs.Composed.{handed_up}
use Rattle.cedar_cli.proofs.Halting.{are_stopped}
use Rattle.cedar_cli.proofs.Reasoned.{because}
use Rattle.cedar_cli.specs.Stages.{last_in}
use Rattle.cedar_cli.proofs.Stepping.{IsSoFar, starts, next_is_taken, all_are_taken}
use Rattle.cedar_cli.proofs.steps.take_all.Goals as goal

pub inputs-init : goal.inputs-init
inputs-init g c = λ ss are empty.
    starts (configuration c.args.authorizer.now) c.args.first.now c.args.store.now.entities ss c.args.inputs.now
    c.args.later.now.items c.args.store.now are empty refl

pub inputs-preserved : goal.inputs-preserved
inputs-preserved g c = λ ss are empty.
    let a = c.args.authorizer.now in
    let items = c.args.inputs.now in
    let i = c.inputs.input-index in
    let item = c.input-item.result in
    let more : suc i ≡ i + 1 = omega arith in
    let next : drop i items ≡ item ∷ drop (i + 1) items =
    drop-cons items i item c.inputs-test.true ∙ ap (λ p. p ∷ drop (suc i) items) (sym c.input-item.is)
    ∙ ap (λ j. item ∷ drop j items) more in
    let before = c.inputs.later.items in
    let after = c.put_taken.new.later.items in
    let now = c.inputs.store.now in
    let first = c.args.first.now in
    let s = c.args.store.now.entities in
    let so_far : IsSoFar (configuration a) first s ss (item ∷ drop (i + 1) items) before now =
    subst (λ l. IsSoFar (configuration a) first s ss l before now) next (c.inputs.invariant ss are empty) in
    let by = subst (λ r. IsTakenBy (configuration a) item (store_or item.store now).entities r c.in_ok-response.response)
    (c.last_of-last.ensures ∙ ap (last_in first) c.deref.ensures.value)
    (subst (λ t. IsTakenBy (configuration a) item t.entities c.last_of-last.result.now c.in_ok-response.response)
    c.store_after-store.ensures c.in_ok-response.ensures.taken) in
    subst (λ t. IsSoFar (configuration a) first s ss (drop (i + 1) items) after t) (sym c.store_after-store.ensures)
    (next_is_taken (configuration a) first s ss (λ r. goes_on a a r (refl, refl, refl)) item (drop (i + 1) items) before
    now so_far c.in_ok-response.response after c.in_ok-put_taken.ensures by)

pub returns-clause-taken : goal.returns-clause-taken
returns-clause-taken g c = λ ss are empty.
    all_are_taken (configuration c.args.authorizer.now) c.args.first.now c.args.store.now.entities ss
    (drop c.inputs.input-index c.args.inputs.now) c.inputs.later.items c.inputs.store.now
    (drop_all c.inputs.input-index c.args.inputs.now c.inputs-test.false) (c.inputs.invariant ss are empty)

pub returns-in_err-response-clause-stopped : goal.returns-in_err-response-clause-stopped
returns-in_err-response-clause-stopped g c = λ ss are empty.
    let a = c.args.authorizer.now in
    let items = c.args.inputs.now in
    let i = c.inputs.input-index in
    let item = c.input-item.result in
    let more : suc i ≡ i + 1 = omega arith in
    let next : drop i items ≡ item ∷ drop (i + 1) items =
    drop-cons items i item c.inputs-test.true ∙ ap (λ p. p ∷ drop (suc i) items) (sym c.input-item.is)
    ∙ ap (λ j. item ∷ drop j items) more in
    let before = c.inputs.later.items in
    let now = c.inputs.store.now in
    let first = c.args.first.now in
    let s = c.args.store.now.entities in
    let so_far : IsSoFar (configuration a) first s ss (item ∷ drop (i + 1) items) before now =
    subst (λ l. IsSoFar (configuration a) first s ss l before now) next (c.inputs.invariant ss are empty) in
    handed_up c.from_residual.result _ (IsToldFor (AreStopped (configuration a) first s ss))
    c.from_residual.ensures.1
    (because _ (AreStopped (configuration a) first s ss)
    (λ halted. are_stopped (configuration a) first s ss item (drop (i + 1) items) before now so_far
    (subst (λ r. IsHalted (configuration a) item (store_or item.store now).entities r)
    (c.last_of-last.ensures ∙ ap (last_in first) c.deref.ensures.value)
    (subst (λ t. IsHalted (configuration a) item t.entities c.last_of-last.result.now) c.store_after-store.ensures
    halted)))
    c.in_err-response.field-0.0 c.in_err-response.ensures.halted)
