use Rattle.std.proofs.Common.{List, ◌++◌, drop, map}
use Rattle.json.specs.Json.{Json}
use Rattle.cedar_json_writer.specs.Trees.{json_view}
use Rattle.cedar_places.specs.Texts.{text_in}
use Rattle.cedar_explain.specs.Reached.{IsReached}
use Rattle.cedar_explain_json.specs.Documents.{AreEach, IsPolicyJson}
use Rattle.cedar_explain_json.proofs.policies.policies_to_json.Given as goal

-- what is written is all, once those that are left stand behind it
abbrev pub invariant-policies : goal.invariant-policies
invariant-policies g l =
    (js : List Json)
    → AreEach (IsPolicyJson (text_in l.fn.places) l.fn.has_values (IsReached l.fn.evaluator))
    (drop l.policy-index l.fn.explained) js
    → AreEach (IsPolicyJson (text_in l.fn.places) l.fn.has_values (IsReached l.fn.evaluator)) l.fn.explained
    (map json_view l.items.items ++ js)
