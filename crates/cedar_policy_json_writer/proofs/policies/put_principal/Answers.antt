use Rattle.std.proofs.Common.{◌≡◌, [], ◌∷◌, ◌++◌, ap, ◌∙◌}
use Rattle.std.specs.Prelude.{codes}
use Rattle.json.specs.Json.{Json}
use Rattle.cedar_json_writer.specs.Trees.{members_seen}
use Rattle.cedar_policy_json_writer.specs.Scopes.{head_json}
use Rattle.cedar_policy_json_writer.proofs.policies.put_principal.Goals as goal

pub returns : goal.returns
returns c =
    c.in_ok-put_member.ensures
    ∙ ap (λ (j : Json). members_seen c.args.members.now.items ++ (codes "principal", j) ∷ [])
    (c.in_ok-json.ensures ∙ ap head_json c.principal_scope.ensures)
