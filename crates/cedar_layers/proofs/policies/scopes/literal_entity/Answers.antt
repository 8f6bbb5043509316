use Rattle.std.proofs.Common.{sym, ap, ◌∙◌}
use Rattle.cedar_layers.specs.Scopes.{literal_entity}
use Rattle.cedar_layers.proofs.Asking.{no_entity}
use Rattle.cedar_layers.proofs.policies.scopes.literal_entity.Goals as goal

pub returns-in-Some : goal.returns-in-Some
returns-in-Some c = c.entity_of_literal.ensures ∙ sym (ap literal_entity c.in-Some.ensures)

pub returns-in-None : goal.returns-in-None
returns-in-None c = sym (no_entity _ c.in-None.ensures)
