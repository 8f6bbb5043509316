-- `&&` and `||`: which boolean on the left decides, and the term of both sides.
use Rattle.std.specs.Prelude.{Bool, true, false, not}
use Rattle.cedar_model.specs.Terms.{Term, bool_literal, literal, both, either}
use Rattle.cedar_operators.specs.declared.partial.connectives.Connective.{Connective}
use Rattle.cedar_operators.specs.declared.partial.connectives.Connective.TheVariants as connectives

-- the boolean on the left that decides
abbrev pub deciding : Connective → Bool
deciding connectives.And = false
deciding connectives.Or = true

-- the other one, which leaves the right side
abbrev pub neutral : Connective → Bool
neutral c = not (deciding c)

-- the term of both sides
abbrev pub joined_terms : Connective → Term → Term → Term
joined_terms connectives.And = both
joined_terms connectives.Or = either

-- that of a right side whose left side does not decide
abbrev pub beside_neutral : Connective → Term → Term
beside_neutral c = joined_terms c (literal (bool_literal (neutral c)))
