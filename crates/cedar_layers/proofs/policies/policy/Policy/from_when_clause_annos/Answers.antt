use Rattle.std.proofs.Common.{◌≡◌, true, ap, ◌∙◌}
use Rattle.cedar_model.specs.Terms.{literal, bool_literal}
use Rattle.cedar_model.specs.Agreement.{no_slots}
use Rattle.cedar_expressions.specs.View.{view}
use Rattle.cedar_layers.specs.Policies.{SlotValues, effect_view, policy_id_text, annotations_view, slots_view}
use Rattle.cedar_layers.proofs.Slots.{slots_view-empty}
use Rattle.cedar_layers.proofs.policies.policy.Policy.from_when_clause_annos.Goals as goal

pub returns-clause-view : goal.returns-clause-view
returns-clause-view c =
    let none : slots_view c.in_ok-new.field-0.value ≡ no_slots = ap (λ (m : SlotValues). slots_view m) c.in_ok-new.ensures.ok ∙ slots_view-empty c.new-2.result c.new-2.ensures.empty in
    let any : view c.in_ok-any.any.value ≡ literal (bool_literal true) = ap view c.in_ok-any.ensures.ok ∙ c.val.ensures.view in
    let principal : view c.in_ok-clone.field-0.value ≡ literal (bool_literal true) = ap view c.in_ok-clone.ensures.cases ∙ any in
    let action : view c.in_ok-clone-2.field-0.value ≡ literal (bool_literal true) = ap view c.in_ok-clone-2.ensures.cases ∙ any in
    λ i. record { effect = effect_view c.args.effect; id = policy_id_text c.args.id; annotations = annotations_view c.args.annotations.value; principal_constraint = principal i; action_constraint = action i; resource_constraint = any i; when_clause = view c.args.expr.value; slots = none i }
