use Rattle.std.proofs.Common.{◌≡◌, drop}
use Rattle.cedar_names.specs.Leaves.{variable_view}
use Rattle.cedar_expressions.specs.View.{terms_view}
use Rattle.cedar_layers.specs.Policies.{slots_view}
use Rattle.cedar_text_printer.specs.Scopes.{are_entities}
use Rattle.cedar_text_printer.proofs.scopes.are_entities.Given as goal

-- those that are left decide
abbrev pub invariant-parts : goal.invariant-parts
invariant-parts l =
    are_entities (slots_view l.slots) (variable_view l.var) (terms_view (drop l.part-index l.parts)) ≡ are_entities (slots_view l.slots) (variable_view l.var) (terms_view l.parts)
