use Rattle.std.proofs.Common.{sym, ap, ◌∙◌}
use Rattle.std.specs.Option.{option_map}
use Rattle.cedar_expressions.specs.View.{view}
use Rattle.cedar_layers.specs.Policies.{slots_view}
use Rattle.cedar_layers.proofs.Asking.{of_parts, asked_parts, found_as}
use Rattle.cedar_layers.proofs.policies.scopes.asked_entities.Goals as goal

pub returns-in-Some : goal.returns-in-Some
returns-in-Some c =
    found_as c.asked_after_test.result _ _ (sym (asked_parts (slots_view c.args.slots.now) (view c.args.e.now) ∙ ap (of_parts _ _) (sym c.as_and.ensures ∙ ap (option_map _) c.in-Some.is))) c.asked_after_test.ensures

pub returns-in-None : goal.returns-in-None
returns-in-None c =
    found_as c.compared_entities.result _ _ (sym (asked_parts (slots_view c.args.slots.now) (view c.args.e.now) ∙ ap (of_parts _ _) (sym c.as_and.ensures ∙ ap (option_map _) c.in-None.is))) c.compared_entities.ensures
