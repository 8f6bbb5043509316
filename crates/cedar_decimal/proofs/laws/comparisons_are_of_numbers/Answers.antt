use Rattle.cedar_decimal.proofs.Ordered.{keys_ordered, is_less, is_at_most, is_greater, is_at_least}
use Rattle.cedar_decimal.proofs.laws.comparisons_are_of_numbers.Goals as goal

pub returns-clause-less : goal.returns-clause-less
returns-clause-less c = λ a b fa fb. is_less a b _ (keys_ordered a b fa fb)

pub returns-clause-less_or_equal : goal.returns-clause-less_or_equal
returns-clause-less_or_equal c = λ a b fa fb. is_at_most a b _ (keys_ordered a b fa fb)

pub returns-clause-greater : goal.returns-clause-greater
returns-clause-greater c = λ a b fa fb. is_greater a b _ (keys_ordered a b fa fb)

pub returns-clause-greater_or_equal : goal.returns-clause-greater_or_equal
returns-clause-greater_or_equal c = λ a b fa fb. is_at_least a b _ (keys_ordered a b fa fb)
