-- The parts of an expression of a kind that stands in a scope.
use Rattle.std.specs.Prelude.{Option, Some, None}
use Rattle.cedar_model.specs.Terms.{Text, BinaryOperator, Slot, Term, Terms, slot, both, binary, is_of_type, set_of}

-- both sides, of `&&`
abbrev pub and_parts : Term → Option (Term × Term)
and_parts (both a b) = Some (a, b)
and_parts t = None

-- the operator and both operands, of an operator of two
abbrev pub binary_parts : Term → Option (BinaryOperator × Term × Term)
binary_parts (binary op a b) = Some (op, a, b)
binary_parts t = None

-- what is tested for a type, and the type, of `is`
abbrev pub type_test_parts : Term → Option (Term × Text)
type_test_parts (is_of_type e ty) = Some (e, ty)
type_test_parts t = None

-- the elements, of a set
abbrev pub set_parts : Term → Option Terms
set_parts (set_of ts) = Some ts
set_parts t = None

-- the slot, of a slot
abbrev pub slot_part : Term → Option Slot
slot_part (slot i) = Some i
slot_part t = None
