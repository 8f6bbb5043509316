use Rattle.std.proofs.Common.{sym, ap, ◌∙◌}
use Rattle.std.specs.Option.{option_map}
use Rattle.cedar_expressions.specs.View.{view}
use Rattle.cedar_layers.proofs.Asking.{of_parts, test_parts}
use Rattle.cedar_layers.proofs.policies.scopes.is_type_test.Goals as goal

pub returns-in-Some : goal.returns-in-Some
returns-in-Some c =
    c.is_entity_variable.ensures ∙ sym (test_parts (view c.args.e.now) ∙ ap (of_parts _ _) (sym c.as_is.ensures ∙ ap (option_map _) c.in-Some.is))

pub returns-in-None : goal.returns-in-None
returns-in-None c =
    sym (test_parts (view c.args.e.now) ∙ ap (of_parts _ _) (sym c.as_is.ensures ∙ ap (option_map _) c.in-None.is))
