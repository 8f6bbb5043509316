use Rattle.std.proofs.Common.{◌≡◌, ◌++◌, drop}
use Rattle.cedar_expressions.specs.View.{terms_view}
use Rattle.cedar_explain_json.specs.Operands.{none_literal, terms_seen}
use Rattle.cedar_explain_json.proofs.operands.put_each.Given as goal

-- those that are put, and those that are left
abbrev pub invariant-parts : goal.invariant-parts
invariant-parts l =
    terms_seen l.found.items ++ none_literal (terms_view (drop l.part-index l.part-items))
    ≡ terms_seen l.initial.found.items ++ none_literal (terms_view l.part-items)
