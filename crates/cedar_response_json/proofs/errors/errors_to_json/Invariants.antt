use Rattle.std.proofs.Common.{List, ◌++◌, map, drop}
use Rattle.json.specs.Json.{Json}
use Rattle.cedar_authorizer.specs.responses.Responses.{errors_view}
use Rattle.cedar_json_writer.specs.Trees.{json_view}
use Rattle.cedar_response_json.specs.Errors.{AreEachError}
use Rattle.cedar_response_json.proofs.errors.errors_to_json.Given as goal

-- what is written is all, once those that are left stand behind it
abbrev pub invariant-errors : goal.invariant-errors
invariant-errors l =
    (js : List Json) → AreEachError (errors_view (drop l.error-index l.fn.errors)) js
    → AreEachError (errors_view l.fn.errors) (map json_view l.items.items ++ js)
