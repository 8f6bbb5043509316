-- The parts of an expression of a kind that stands in a scope.
use Rattle.std.specs.Prelude.{Option, Some, None}
use Rattle.cedar_model.specs.Terms.{BinaryOperator, Term, Terms, both, binary, is_of_type, set_of}

abbrev pub and_parts : Term → Option (Term × Term)
and_parts (both a b) = Some (a, b)
and_parts t = None

abbrev pub binary_parts : Term → Option (BinaryOperator × Term × Term)
binary_parts (binary op a b) = Some (op, a, b)
binary_parts t = None

abbrev pub type_test_part : Term → Option Term
type_test_part (is_of_type e ty) = Some e
type_test_part t = None

abbrev pub set_parts : Term → Option Terms
set_parts (set_of ts) = Some ts
set_parts t = None
