use Rattle.std.proofs.Common.{◌≤◌, length, string_bytes, false}
use denote.Text.{Utf8}
use denote.Shadow.{shadow}
use Rattle.cedar_text_lexer.proofs.Reading.{TextSoFar, RefusedSoFar}
use Rattle.cedar_text_lexer.proofs.values.unescape_text.Given as goal

abbrev pub invariant-loop-first : goal.invariant-loop-first
invariant-loop-first l = record {
  utf8 : shadow (Utf8 l.rest);
  within : length l.rest ≤ length l.inside;
  so_far : TextSoFar l.inside (string_bytes l.value) l.rest;
  refused : RefusedSoFar false l.inside l.rest;
}

abbrev pub decreases-loop-first : goal.decreases-loop-first
decreases-loop-first l = length l.rest
