use Rattle.std.proofs.Common.{ap}
use Rattle.cedar_layers.specs.Policies.{effect_view}
use Rattle.cedar_authorizer.specs.responses.Rows.{ResidualEntry, located_residual, residual_rows}
use Rattle.cedar_authorizer.proofs.Getting.{made_whole, residual_carried}
use Rattle.cedar_authorizer.proofs.responses.partial_response.policies.next_residual.Goals as goal

pub returns : goal.returns
returns c =
    let e = effect_view c.args.effect in
    let made = c.policy_of_residual.ensures in
    let entry : ResidualEntry = (c.in_ok-id.id.now, c.in_ok-id.entry.now) in (
      located_residual e entry,
      ap (residual_rows e) c.in_ok-id.ensures.steps,
      made_whole c.policy_of_residual.result _ _ _ made.policy made.clause (residual_carried e entry),
    )
