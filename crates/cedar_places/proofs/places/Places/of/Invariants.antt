use Rattle.std.proofs.Common.{◌≡◌, All}
use Rattle.cedar_text_lexer.specs.Positions.{position_of}
use Rattle.cedar_places.specs.Noted.{IsOf}
use Rattle.cedar_places.proofs.places.Places.of.Given as goal

abbrev pub invariant-loop-i : goal.invariant-loop-i
invariant-loop-i l = record {
  is : l.position ≡ position_of l.text l.i;
  right : All (IsOf l.text) l.noted.items;
}
