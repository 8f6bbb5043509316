use Rattle.std.proofs.Common.{◌≡◌, ◌++◌, map, drop}
use Rattle.cedar_expressions.specs.View.{terms_view}
use Rattle.cedar_json_writer.specs.Trees.{json_view}
use Rattle.cedar_json_writer.specs.Written.{written_uid}
use Rattle.cedar_policy_json_writer.specs.Scopes.{entities_in}
use Rattle.cedar_policy_json_writer.proofs.scopes.entities_to_json.Given as goal

-- those that are written, and those that are left
abbrev pub invariant-parts : goal.invariant-parts
invariant-parts l =
    map json_view l.items.items ++ map written_uid (entities_in (terms_view (drop l.part-index l.fn.parts)))
    ≡ map written_uid (entities_in (terms_view l.fn.parts))
