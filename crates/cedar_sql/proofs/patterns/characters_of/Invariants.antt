use Rattle.std.proofs.Common.{◌≡◌, ◌++◌, drop, map, string_bytes}
use Rattle.cedar_names.specs.Leaves.{part_view}
use Rattle.std.specs.Str.{encode_utf8_all}
use Rattle.cedar_sql.specs.Patterns.{characters}
use Rattle.cedar_sql.proofs.patterns.characters_of.Given as goal

abbrev pub invariant-parts : goal.invariant-parts
invariant-parts l =
    string_bytes l.text ++ encode_utf8_all (characters (map part_view (drop l.part-index l.parts)))
    ≡ encode_utf8_all (characters (map part_view l.parts))
