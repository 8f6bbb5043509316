use Rattle.std.proofs.Common.{ap, sym, ◌∙◌}
use Rattle.std.specs.Option.{option_map}
use Rattle.cedar_names.specs.Leaves.{variable_view}
use Rattle.cedar_layers.specs.Policies.{slots_view}
use Rattle.cedar_expressions.specs.View.{view}
use Rattle.cedar_text_printer.proofs.ScopeKinds.{of_parts, typed_parts}
use Rattle.cedar_text_printer.proofs.scopes.is_typed.Goals as goal

pub returns-in-Some : goal.returns-in-Some
returns-in-Some c =
    c.are_typed.ensures ∙ sym (typed_parts (slots_view c.args.slots.now) (variable_view c.args.var) (view c.args.expr.now) ∙ ap (of_parts _ _) (sym c.as_and.ensures ∙ ap (option_map _) c.in-Some.is))

pub returns-in-None : goal.returns-in-None
returns-in-None c =
    sym (typed_parts (slots_view c.args.slots.now) (variable_view c.args.var) (view c.args.expr.now) ∙ ap (of_parts _ _) (sym c.as_and.ensures ∙ ap (option_map _) c.in-None.is))
