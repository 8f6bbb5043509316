use Rattle.std.proofs.Common.{◌≡◌, drop}
use Rattle.cedar_expressions.specs.View.{terms_view}
use Rattle.cedar_policy_json_writer.specs.Scopes.{are_entities}
use Rattle.cedar_policy_json_writer.proofs.constraints.are_entities.Given as goal

-- those that are left decide
abbrev pub invariant-parts : goal.invariant-parts
invariant-parts l = are_entities (terms_view (drop l.part-index l.parts)) ≡ are_entities (terms_view l.fn.parts)
