use Rattle.std.proofs.Common.{◌≡◌, All}
use Rattle.cedar_text_lexer.specs.Positions.{position_of}
use Rattle.cedar_cli.specs.Noted.{IsOf}
use Rattle.cedar_cli.proofs.places.Places.of.Given as goal

abbrev pub invariant-loop-i : goal.invariant-loop-i
invariant-loop-i l = record {
  is : l.position ≡ position_of l.source.text.now l.i;
  right : All (IsOf l.source.text.now) l.noted.items;
}
