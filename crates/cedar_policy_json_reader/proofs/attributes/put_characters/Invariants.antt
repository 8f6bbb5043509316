use Rattle.std.proofs.Common.{◌≡◌, ◌++◌, map}
use Rattle.std.specs.Str.{IsUtf8}
use Rattle.cedar_names.specs.Leaves.{part_view}
use Rattle.cedar_policy_json_reader.specs.Leaves.{characters_of}
use Rattle.cedar_policy_json_reader.proofs.attributes.put_characters.Given as goal

-- the parts so far, and the characters that are left
abbrev pub invariant-characters : goal.invariant-characters
invariant-characters l = record {
  utf8 : IsUtf8 l.character-iterator.rest.now;
  same : map part_view l.elems.items ++ characters_of l.character-iterator.rest.now
      ≡ map part_view l.initial.elems.items ++ characters_of l.fn.text;
}
