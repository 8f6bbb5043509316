use Rattle.std.proofs.Common.{◌≡◌, sym, ap, ◌∙◌}
use Rattle.std.specs.Option.{option_map}
use Rattle.cedar_expressions.specs.View.{view}
use Rattle.cedar_names.specs.Names.{uid_name}
use Rattle.cedar_layers.specs.Policies.{slots_view}
use Rattle.cedar_layers.proofs.Asking.{of_parts, named_parts, copied_name}
use Rattle.cedar_layers.proofs.Slots.{option_map-get_slot}
use Rattle.cedar_layers.proofs.policies.scopes.named_entity.Goals as goal

pub returns-in-Some : goal.returns-in-Some
returns-in-Some c =
    copied_name c.get.result ∙ ap (option_map uid_name) c.get.ensures.value ∙ option_map-get_slot c.args.slots.now c.in-Some.slot
    ∙ sym (named_parts (slots_view c.args.slots.now) (view c.args.e.now) ∙ ap (of_parts _ _) (sym c.as_slot.ensures ∙ ap (option_map _) c.in-Some.is))

pub returns-in-None : goal.returns-in-None
returns-in-None c =
    c.literal_entity.ensures ∙ sym (named_parts (slots_view c.args.slots.now) (view c.args.e.now) ∙ ap (of_parts _ _) (sym c.as_slot.ensures ∙ ap (option_map _) c.in-None.is))
