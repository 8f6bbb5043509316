-- What operators answer does not depend on the map of unknowns.
use Rattle.std.specs.Prelude.{◌≡◌}
use Rattle.std.proofs.Common.{refl}
use Rattle.cedar_model.specs.Terms.{Text, BinaryOperator, eq_operator, less_operator, less_eq_operator, add_operator, sub_operator, mul_operator, in_operator, contains_operator, contains_all_operator, contains_any_operator, get_tag_operator, has_tag_operator}
use Rattle.cedar_model.specs.Values.{Represented}
use Rattle.cedar_model.specs.Failures.{PartialValue, value, residual, answers}
use Rattle.cedar_model.specs.Operators.{binary_answer}
use Rattle.cedar_model.specs.Settings.{Setting}
use Rattle.cedar_model.specs.Rules.{binary_of_parts, has_part}
use Rattle.cedar_operators.specs.Operands.{over}
use Rattle.cedar_operators.specs.Operands.{given}

pub values_alike : (s : Setting) (op : BinaryOperator) (v w : Represented) → binary_answer (given s s.store s.extensions) op v w ≡ binary_answer s op v w
unfolding binary_answer
values_alike s eq_operator v w = refl
values_alike s less_operator v w = refl
values_alike s less_eq_operator v w = refl
values_alike s add_operator v w = refl
values_alike s sub_operator v w = refl
values_alike s mul_operator v w = refl
values_alike s in_operator v w = refl
values_alike s contains_operator v w = refl
values_alike s contains_all_operator v w = refl
values_alike s contains_any_operator v w = refl
values_alike s get_tag_operator v w = refl
values_alike s has_tag_operator v w = refl

pub parts_alike : (s : Setting) (op : BinaryOperator) (p q : PartialValue) → binary_of_parts (given s s.store s.extensions) op p q ≡ binary_of_parts s op p q
unfolding binary_of_parts
parts_alike s op (value v) (value w) = values_alike s op v w
parts_alike s op (value v) (residual r) = refl
parts_alike s op (residual r) (value w) = refl
parts_alike s op (residual r) (residual q) = refl

pub tested_alike : (s : Setting) (k : Text) (p : PartialValue) → has_part (over s s.store) k (answers p) ≡ has_part s k (answers p)
unfolding has_part
tested_alike s k (value v) = refl
tested_alike s k (residual r) = refl
