use Rattle.std.proofs.Common.{sym, ap, ◌∙◌}
use Rattle.cedar_layers.specs.Scopes.{is_entity_variable}
use Rattle.cedar_layers.proofs.Asking.{no_variable}
use Rattle.cedar_layers.proofs.policies.scopes.is_entity_variable.Goals as goal

pub returns-in-Some : goal.returns-in-Some
returns-in-Some c = c.stands_for_entity.ensures ∙ sym (ap is_entity_variable c.in-Some.ensures)

pub returns-in-None : goal.returns-in-None
returns-in-None c = sym (no_variable _ c.in-None.ensures)
