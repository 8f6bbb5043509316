use Rattle.std.proofs.Common.{sym, ap, ◌∙◌}
use Rattle.std.specs.Option.{option_map}
use Rattle.cedar_expressions.specs.View.{view}
use Rattle.cedar_layers.specs.Policies.{slots_view}
use Rattle.cedar_layers.proofs.Asking.{of_parts, compared_parts, found_as}
use Rattle.cedar_layers.proofs.policies.scopes.compared_entities.Goals as goal

pub returns-in-Some : goal.returns-in-Some
returns-in-Some c =
    found_as c.compared_with.result _ _ (sym (compared_parts (slots_view c.args.slots.now) (view c.args.e.now) ∙ ap (of_parts _ _) (sym c.as_binary.ensures ∙ ap (option_map _) c.in-Some.is))) c.compared_with.ensures

pub returns-in-None : goal.returns-in-None
returns-in-None c =
    sym (compared_parts (slots_view c.args.slots.now) (view c.args.e.now) ∙ ap (of_parts _ _) (sym c.as_binary.ensures ∙ ap (option_map _) c.in-None.is))
