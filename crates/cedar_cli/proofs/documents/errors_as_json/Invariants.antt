use Rattle.std.proofs.Common.{List, ◌++◌, drop, map}
use Rattle.json.specs.Json.{Json}
use Rattle.cedar_json_writer.specs.Trees.{json_view}
use Rattle.cedar_cli.specs.Documents.{ArePlacedErrors}
use Rattle.cedar_cli.proofs.documents.errors_as_json.Given as goal

-- what is written is all, once those that are left stand behind it
abbrev pub invariant-errors : goal.invariant-errors
invariant-errors l =
    (js : List Json) → ArePlacedErrors l.fn.deciding.places.now.source.text.now (drop l.error-index l.fn.errors) js
    → ArePlacedErrors l.fn.deciding.places.now.source.text.now l.fn.errors (map json_view l.items.items ++ js)
