use Rattle.std.proofs.Common.{◌≤◌, length, true}
use denote.Text.{Utf8}
use denote.Shadow.{shadow}
use Rattle.cedar_text_lexer.proofs.Reading.{PatternSoFar, RefusedSoFar}
use Rattle.cedar_text_lexer.proofs.values.parts.Given as goal

abbrev pub invariant-loop-first : goal.invariant-loop-first
invariant-loop-first l = record {
  utf8 : shadow (Utf8 l.rest);
  within : length l.rest ≤ length l.inside;
  so_far : PatternSoFar l.inside l.parts.items l.rest;
  refused : RefusedSoFar true l.inside l.rest;
}

abbrev pub decreases-loop-first : goal.decreases-loop-first
decreases-loop-first l = length l.rest
