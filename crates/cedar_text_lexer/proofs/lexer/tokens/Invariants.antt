use Rattle.std.proofs.Common.{◌≡◌, ◌+◌, length, drop}
use Rattle.std.specs.List.{All}
use denote.Text.{Utf8}
use denote.Shadow.{shadow}
use Rattle.cedar_text_lexer.specs.Values.{Stands}
use Rattle.cedar_text_lexer.proofs.Whole.{HasSoFar}
use Rattle.cedar_text_lexer.proofs.lexer.tokens.Given as goal

abbrev pub invariant-loop-rest : goal.invariant-loop-rest
invariant-loop-rest l = record {
  utf8 : shadow (Utf8 l.rest);
  placed : l.start + length l.rest ≡ length l.text;
  rest : l.rest ≡ drop l.start l.text;
  so_far : HasSoFar l.text l.tokens.items l.start l.rest;
  stand : All (Stands l.text) l.tokens.items;
}

abbrev pub decreases-loop-rest : goal.decreases-loop-rest
decreases-loop-rest l = length l.rest
