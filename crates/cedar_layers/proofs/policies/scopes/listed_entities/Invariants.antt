use Rattle.std.proofs.Common.{◌≡◌, drop}
use Rattle.cedar_expressions.specs.View.{terms_view}
use Rattle.cedar_layers.specs.Scopes.{listed_entities, names_at}
use Rattle.cedar_layers.proofs.Asking.{behind}
use Rattle.cedar_layers.proofs.policies.scopes.listed_entities.Given as goal

-- the entities that are left, behind those that were found
abbrev pub invariant-parts : goal.invariant-parts
invariant-parts l =
    behind (names_at l.uids.items) (listed_entities (terms_view (drop l.part-index l.parts))) ≡ listed_entities (terms_view l.parts)
