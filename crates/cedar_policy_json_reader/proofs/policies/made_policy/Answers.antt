use Rattle.std.proofs.Common.{ap, ◌∙◌}
use Rattle.cedar_model.specs.World.{Slots}
use Rattle.cedar_expressions.specs.View.{view}
use Rattle.cedar_layers.specs.Policies.{PolicyView, effect_view, policy_id_text, annotations_view}
use Rattle.cedar_layers.proofs.Slots.{slots_view-empty}
use Rattle.cedar_policy_json_reader.proofs.policies.made_policy.Goals as goal

pub returns-in-Ok-clause-said : goal.returns-in-Ok-clause-said
returns-in-Ok-clause-said c =
    let ts = c.args.terms in
    let made : Slots → PolicyView = λ s. record {
      effect = effect_view c.args.effect;
      id = policy_id_text c.args.id;
      annotations = annotations_view c.args.annotations;
      principal_constraint = view ts.0.0;
      action_constraint = view ts.0.1.0;
      resource_constraint = view ts.0.1.1;
      when_clause = view ts.1;
      slots = s;
    } in
    c.in-Ok.ensures.view ∙ ap made (slots_view-empty c.new-env.result c.new-env.ensures.empty)
