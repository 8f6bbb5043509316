use Rattle.std.proofs.Common.{List, ℕ}
use Rattle.cedar_text_lexer.proofs.Located.{located_none}
use Rattle.cedar_places.proofs.places.first_position.Goals as goal

pub returns-clause-is : goal.returns-clause-is
returns-clause-is c = λ (text : List ℕ). located_none text
