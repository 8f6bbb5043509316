use Rattle.std.proofs.Common.{◌≡◌}
use Rattle.cedar_text_lexer.specs.Positions.{position_of}
use Rattle.cedar_places.proofs.places.Places.position_of.Given as goal

abbrev pub invariant-loop-i : goal.invariant-loop-i
invariant-loop-i l = l.position ≡ position_of l.self.text.now l.i
