use Rattle.std.proofs.Common.{◌≡◌, ◌++◌, string_bytes, IsUtf8}
use Rattle.cedar_text_lexer.specs.Positions.{marks_under}
use Rattle.cedar_text_lexer.proofs.show.marks.Given as goal

abbrev pub invariant-characters : goal.invariant-characters
invariant-characters l = record {
  text : IsUtf8 l.character-iterator.rest.now;
  whole : string_bytes l.marks ++ marks_under l.mark l.character-iterator.rest.now ≡ marks_under l.mark l.fn.text;
}
