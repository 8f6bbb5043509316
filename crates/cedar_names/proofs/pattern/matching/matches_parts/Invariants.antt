use Rattle.std.proofs.Common.{map, length, ◌+◌, ◌*◌, ◌≤◌}
use denote.Text.{Utf8}
use denote.Shadow.{shadow}
use Rattle.std.specs.Str.{chars}
use Rattle.cedar_names.specs.Leaves.{part_view}
use Rattle.cedar_names.proofs.Matching.{IsWalk}
use Rattle.cedar_names.proofs.pattern.matching.matches_parts.Given as goal

abbrev pub invariant-walk : goal.invariant-walk
invariant-walk l = record {
  rest_text : shadow (Utf8 l.rest);
  from_text : shadow (Utf8 l.from);
  walk : IsWalk (map part_view l.elems) (chars l.text) (map part_view l.parts) (chars l.rest) l.after_wildcard (map part_view l.more) (chars l.from);
  parts_fit : length (map part_view l.parts) ≤ length (map part_view l.more);
  more_fits : length (map part_view l.more) ≤ length (map part_view l.elems);
  rest_fits : length (chars l.rest) ≤ length (chars l.text);
  from_fits : length (chars l.from) ≤ length (chars l.text);
}

-- the parts after the last wildcard, then the text behind it, then the parts left
abbrev pub decreases-walk : goal.decreases-walk
decreases-walk l =
    (length (map part_view l.more) * (length (chars l.text) + 1) + length (chars l.from)) * (length (map part_view l.elems) + 1) + length (map part_view l.parts)
