use Rattle.std.proofs.Common.{List, ◌++◌, drop, map}
use Rattle.json.specs.Json.{Json}
use Rattle.cedar_layers.specs.Policies.{slots_view}
use Rattle.cedar_json_writer.specs.Trees.{json_view}
use Rattle.cedar_places.specs.Texts.{text_in}
use Rattle.cedar_explain.specs.Reached.{IsReached}
use Rattle.cedar_explain_json.specs.Documents.{AreEach, IsPartJson}
use Rattle.cedar_explain_json.proofs.parts.parts_to_json.Given as goal

-- what is written is all, once those that are left stand behind it
abbrev pub invariant-parts : goal.invariant-parts
invariant-parts g l =
    (js : List Json)
    → AreEach (IsPartJson (text_in l.fn.places) l.fn.has_values (IsReached l.fn.evaluator (slots_view l.fn.slots)))
    (drop l.part-index l.fn.parts) js
    → AreEach (IsPartJson (text_in l.fn.places) l.fn.has_values (IsReached l.fn.evaluator (slots_view l.fn.slots)))
    l.fn.parts (map json_view l.items.items ++ js)
