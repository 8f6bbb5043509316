use Rattle.std.proofs.Common.{◌≡◌, ◌++◌, map, drop}
use Rattle.cedar_json_writer.specs.Trees.{json_view}
use Rattle.cedar_places.specs.Texts.{text_in}
use Rattle.cedar_explain_json.specs.Documents.{lack_json}
use Rattle.cedar_explain_json.proofs.lacks.lacks_to_json.Given as goal

-- those that are written, and those that are left
abbrev pub invariant-lacks : goal.invariant-lacks
invariant-lacks l =
    map json_view l.items.items ++ map (lack_json (text_in l.fn.places)) (drop l.lack-index l.fn.lacks)
    ≡ map (lack_json (text_in l.fn.places)) l.fn.lacks
