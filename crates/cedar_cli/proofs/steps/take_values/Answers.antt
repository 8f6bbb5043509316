use Rattle.std.proofs.Common.{subst, Ok, Err}
use Rattle.cedar_model.specs.Refusals.{Refusal}
use Rattle.cedar_layers.specs.Stores.{store_view}
use Rattle.cedar_requests.specs.Substitutions.{values_for}
use Rattle.cedar_authorizer.specs.Configured.{configuration}
use Rattle.cedar_authorizer.specs.Steps.{response_said, step_by, IsStep}
use Rattle.cedar_cli.specs.Steps.{step_map}
use Rattle.cedar_cli.specs.Inputs.{IsHalted, by_refusal}
use Rattle.cedar_cli.proofs.Composed.{of_ok, of_err}
use Rattle.cedar_cli.proofs.Reasoned.{because}
use Rattle.cedar_cli.proofs.steps.take_values.Goals as goal

pub returns-clause-step : goal.returns-clause-step
returns-clause-step g c =
    let conf = configuration c.args.authorizer.now in
    let s = c.args.store.now.entities in
    let old = response_said c.args.response.now in
    let made = c.in_ok-values.values in
    of_ok (λ n. IsStep conf (values_for made.entries, store_view s) old (Ok n))
    (λ n. IsStep conf (step_map c.args.input.now.values c.args.response.now, store_view s) old (Ok n))
    (λ n h. subst (λ m. IsStep conf (m, store_view s) old (Ok n)) c.in_ok-values.ensures.values h)
    c.take_over-next.result c.take_over-next.ensures.step

pub returns-clause-halted : goal.returns-clause-halted
returns-clause-halted g c =
    let conf = configuration c.args.authorizer.now in
    let s = c.args.store.now.entities in
    let old = response_said c.args.response.now in
    let made = c.in_ok-values.values in
    of_err _ _
    (λ r. because ((e : Refusal) × IsStep conf (values_for made.entries, store_view s) old (Err e))
    (IsHalted conf c.args.input.now s c.args.response.now)
    (λ h. by_refusal h.0 (subst (λ m. IsStep conf (m, store_view s) old (Err h.0)) c.in_ok-values.ensures.values h.1)) r)
    c.take_over-next.result c.take_over-next.ensures.refused
