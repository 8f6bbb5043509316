use Rattle.std.proofs.Common.{◌≡◌, ◌+◌, ◌≤◌}
use Rattle.cedar_text_lexer.specs.Positions.{position_of}
use Rattle.cedar_text_lexer.proofs.show.locate.Given as goal

abbrev pub invariant-loop-i : goal.invariant-loop-i
invariant-loop-i l = record {
  is : l.position ≡ position_of l.text l.i;
  at : l.position.at ≡ l.i;
  line : l.position.line ≤ l.i + 1;
  column : l.position.column ≤ l.i + 1;
}
