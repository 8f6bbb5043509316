use Rattle.std.proofs.Common.{◌≡◌, List, [], ◌++◌, drop, map}
use Rattle.cedar_model.specs.Responses.{Row}
use Rattle.cedar_response_json_reader.specs.Rows.{held_row}
use Rattle.cedar_response_json_reader.specs.Sheets.{AreNoted}
use Rattle.cedar_response_json_reader.proofs.sheets.note_rows.Given as goal

-- those that are noted, and those that are left
abbrev pub invariant-rows : goal.invariant-rows
invariant-rows l =
    (rows : List Row) × AreNoted rows [] l.sheet
    × (rows ++ map held_row (drop l.row-index l.row-items) ≡ map held_row l.row-items)
