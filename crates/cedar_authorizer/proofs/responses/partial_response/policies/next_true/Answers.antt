use Rattle.std.proofs.Common.{ap}
use Rattle.cedar_layers.specs.Policies.{effect_view}
use Rattle.cedar_authorizer.specs.responses.Rows.{TrueEntry, located_true, true_rows}
use Rattle.cedar_authorizer.proofs.Getting.{made_whole, true_carried}
use Rattle.cedar_authorizer.proofs.responses.partial_response.policies.next_true.Goals as goal

pub returns : goal.returns
returns c =
    let e = effect_view c.args.effect in
    let made = c.policy_of_truth.ensures in
    let entry : TrueEntry = (c.in_ok-id.id.now, c.in_ok-id.annotations.now) in (
      located_true e entry,
      ap (true_rows e) c.in_ok-id.ensures.steps,
      made_whole c.policy_of_truth.result _ _ _ made.policy made.clause (true_carried e entry),
    )
