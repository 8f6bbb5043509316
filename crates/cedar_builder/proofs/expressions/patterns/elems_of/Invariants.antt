use Rattle.std.proofs.Common.{◌≡◌, ◌++◌, map}
use Rattle.std.specs.Str.{chars, IsUtf8}
use Rattle.cedar_names.specs.Leaves.{part_view}
use Rattle.cedar_builder.specs.Patterns.{pattern_behind, pattern_said}
use Rattle.cedar_builder.proofs.expressions.patterns.elems_of.Given as goal

-- what the characters that are left say, behind the parts so far, is what all say
abbrev pub invariant-characters : goal.invariant-characters
invariant-characters l = record {
  utf8 : IsUtf8 l.character-iterator.rest.now;
  same : map part_view l.elems.items ++ pattern_behind l.is_escaped (chars l.character-iterator.rest.now)
      ≡ pattern_said (chars l.fn.pattern);
}
