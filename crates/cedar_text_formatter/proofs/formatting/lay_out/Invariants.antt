use Rattle.std.proofs.Common.{◌≡◌, ◌+◌, ◌≤◌, length, string_bytes, true}
use denote.Text.{Utf8}
use denote.Shadow.{shadow}
use Rattle.cedar_text_lexer.specs.Tokens.{IsTokens}
use Rattle.cedar_text_formatter.specs.Pieces.{are_readable}
use Rattle.cedar_text_formatter.proofs.Progress.{SoFar}
use Rattle.cedar_text_formatter.proofs.formatting.lay_out.Given as goal

abbrev pub invariant-loop-rest : goal.invariant-loop-rest
invariant-loop-rest l = record {
  utf8 : shadow (Utf8 l.rest);
  placed : l.at + length l.rest ≡ length l.text;
  tokens : IsTokens l.at l.rest l.left;
  readable : are_readable l.left ≡ true;
  low : l.state.depth ≤ l.at;
  so_far : SoFar l.text (string_bytes l.formatted) l.state l.rest;
}

abbrev pub decreases-loop-rest : goal.decreases-loop-rest
decreases-loop-rest l = length l.rest
