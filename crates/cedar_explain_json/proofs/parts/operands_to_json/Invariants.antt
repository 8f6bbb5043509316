use Rattle.std.proofs.Common.{List, ◌++◌, drop, map}
use Rattle.json.specs.Json.{Json}
use Rattle.cedar_layers.specs.Policies.{slots_view}
use Rattle.cedar_json_writer.specs.Trees.{json_view}
use Rattle.cedar_explain.specs.Reached.{IsReached}
use Rattle.cedar_explain_json.specs.Documents.{AreEach, IsOperandJson}
use Rattle.cedar_explain_json.specs.Operands.{terms_seen}
use Rattle.cedar_explain_json.proofs.parts.operands_to_json.Given as goal

-- what is written is all, once those that are left stand behind it
abbrev pub invariant-operands : goal.invariant-operands
invariant-operands g l =
    (js : List Json)
    → AreEach (IsOperandJson (IsReached l.fn.evaluator (slots_view l.fn.slots)))
    (terms_seen (drop l.operand-index l.fn.operands)) js
    → AreEach (IsOperandJson (IsReached l.fn.evaluator (slots_view l.fn.slots))) (terms_seen l.fn.operands)
    (map json_view l.items.items ++ js)
