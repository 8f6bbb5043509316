use Rattle.std.proofs.Common.{◌≡◌, ◌++◌, map}
use Rattle.cedar_layers.specs.Policies.{effect_view}
use Rattle.cedar_authorizer.specs.responses.Rows.{rows_in, false_rows}
use Rattle.cedar_json_writer.specs.Trees.{json_view}
use Rattle.cedar_response_json.specs.Responses.{row_json}
use Rattle.cedar_response_json.proofs.policies.put_falses.Given as goal

-- those that are written, and those that are left
abbrev pub invariant-falses : goal.invariant-falses
invariant-falses l =
    map json_view l.items.items ++ map row_json (rows_in (false_rows (effect_view l.fn.effect) l.id-iterator))
    ≡ map json_view l.fn.items.items ++ map row_json (rows_in (false_rows (effect_view l.fn.effect) l.fn.falses.entries))
