-- What the comparisons of decimals answer and compute.
use Rattle.std.specs.Prelude.{ℕ, Bool, List}
use Rattle.std.specs.declared.cmp.Ordering.{Ordering}
use Rattle.std.specs.Ordering.{nat_cmp, is_lt, is_le, is_gt, is_ge}
use Rattle.std.specs.Cmp.Lexicographic.{slice_cmp}
use Rattle.cedar_model.specs.Failures.{answers_bool}
use Rattle.cedar_extension_values.specs.Functions.{Answering, of_keys, Computing, made_of_keys, gives_bool}
use Rattle.cedar_decimal_functions.specs.Decimals.{decimal_name}

-- whether the order of two decimals, which is that of their keys, is such
abbrev pub compared : (Ordering → Bool) → Answering
compared such = of_keys decimal_name decimal_name (λ k l. answers_bool (such (slice_cmp nat_cmp k l)))

abbrev pub compared_made : (Ordering → Bool) → Computing
compared_made such = made_of_keys decimal_name decimal_name (λ k l. gives_bool (such (slice_cmp nat_cmp k l)))

abbrev pub less_than_answer : Answering
less_than_answer = compared is_lt

abbrev pub less_than_made : Computing
less_than_made = compared_made is_lt

abbrev pub less_than_or_equal_answer : Answering
less_than_or_equal_answer = compared is_le

abbrev pub less_than_or_equal_made : Computing
less_than_or_equal_made = compared_made is_le

abbrev pub greater_than_answer : Answering
greater_than_answer = compared is_gt

abbrev pub greater_than_made : Computing
greater_than_made = compared_made is_gt

abbrev pub greater_than_or_equal_answer : Answering
greater_than_or_equal_answer = compared is_ge

abbrev pub greater_than_or_equal_made : Computing
greater_than_or_equal_made = compared_made is_ge
