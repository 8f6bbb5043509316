use Rattle.std.proofs.Common.{◌≡◌, ap, ◌∙◌, sym, subst, option_map, option_copied, IfOk}
use Rattle.cedar_model.specs.Terms.{Term, slot}
use Rattle.cedar_names.specs.Leaves.{slot_view}
use Rattle.cedar_names.specs.Names.{uid_name}
use Rattle.cedar_expressions.specs.View.{view, kind_view}
use Rattle.cedar_expressions.proofs.Levels.{kind_view-Slot}
use Rattle.cedar_layers.specs.Policies.{slots_view}
use Rattle.cedar_layers.proofs.Asking.{copied_name}
use Rattle.cedar_layers.proofs.Slots.{option_map-get_slot}
use Rattle.cedar_policy_json_text.specs.Placed as placing
use Rattle.cedar_policy_json_text.proofs.PlacedTerms.{slot_placed}
use Rattle.cedar_policy_json_text.proofs.placing.+placed.Goals as goal

pub returns-in-Slot : goal.returns-in-Slot
returns-in-Slot t c =
    let x = slot_view c.in-Slot.slot in
    let is : view c.args.constraint.now ≡ slot x = sym c.expr_kind.ensures.view ∙ ap kind_view c.in-Slot.is ∙ kind_view-Slot c.in-Slot.slot in
    let value : option_map (λ u. uid_name u.now) c.get.result ≡ slots_view c.args.slots.now x =
    copied_name c.get.result ∙ ap (option_map uid_name) c.get.ensures.value ∙ option_map-get_slot c.args.slots.now c.in-Slot.slot in
    subst (λ (u : Term). IfOk c.placed_slot.result (λ e. view e ≡ u)) (slot_placed (slots_view c.args.slots.now) x _ _ value is) c.placed_slot.ensures
