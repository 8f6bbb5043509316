use Rattle.std.proofs.Common.{sym, ap, ◌∙◌}
use Rattle.std.specs.Option.{option_map}
use Rattle.cedar_expressions.specs.View.{view}
use Rattle.cedar_layers.proofs.Asking.{of_parts, tested_type_parts}
use Rattle.cedar_layers.proofs.policies.scopes.asked_type.Goals as goal

pub returns-in-Some : goal.returns-in-Some
returns-in-Some c =
    c.type_of_test.ensures ∙ sym (tested_type_parts (view c.args.e.now) ∙ ap (of_parts _ _) (sym c.as_is.ensures ∙ ap (option_map _) c.in-Some.is))

pub returns-in-None : goal.returns-in-None
returns-in-None c =
    sym (tested_type_parts (view c.args.e.now) ∙ ap (of_parts _ _) (sym c.as_is.ensures ∙ ap (option_map _) c.in-None.is))
