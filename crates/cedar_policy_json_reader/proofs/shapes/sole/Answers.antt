use Rattle.std.proofs.Common.{Some, ap, ◌∙◌, arith}
use Rattle.json.specs.Value.{value_view}
use Rattle.cedar_policy_json_reader.proofs.Members.{sole_one, sole_other}
use Rattle.cedar_policy_json_reader.proofs.shapes.sole.Goals as goal

pub returns-then-len-eq1 : goal.returns-then-len-eq1
returns-then-len-eq1 c =
    let m = c.index-member.result.now in
    ap (λ n. Some (n.0.now, value_view n.1)) c.index-member.ensures ∙ sole_one c.args.members.now.items m (omega arith)

pub returns-else-len-eq1 : goal.returns-else-len-eq1
returns-else-len-eq1 c = sole_other c.args.members.now.items (λ h. absurd (omega (arith, h)))
