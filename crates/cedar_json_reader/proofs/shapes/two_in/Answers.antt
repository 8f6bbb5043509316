use Rattle.std.proofs.Common.{Some, ap₂, ◌∙◌, arith}
use Rattle.json.specs.Value.{value_view}
use Rattle.cedar_json_reader.proofs.Members.{two_both, two_other}
use Rattle.cedar_json_reader.proofs.shapes.two_in.Goals as goal

pub returns-then-len-eq2 : goal.returns-then-len-eq2
returns-then-len-eq2 c =
    let m = c.index-first.result.now in
    let n = c.index-second.result.now in
    ap₂ (λ a b. Some ((a.0.now, value_view a.1), (b.0.now, value_view b.1))) c.index-first.ensures c.index-second.ensures ∙ two_both c.args.members.now.items m n (omega arith)

pub returns-else-len-eq2 : goal.returns-else-len-eq2
returns-else-len-eq2 c = two_other c.args.members.now.items (λ h. absurd (omega (arith, h)))
