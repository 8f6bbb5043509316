-- By the laws of constructors, and of functions of two keys.
use Rattle.std.specs.Cmp.Lexicographic.{slice_cmp}
use Rattle.std.specs.Ordering.{nat_cmp}
use Rattle.cedar_model.specs.Failures.{answers_bool}
use Rattle.cedar_model.specs.Terms.{bool_literal}
use Rattle.cedar_decimal.specs.Keys.{key_of}
use Rattle.cedar_extension_values.specs.Functions.{gives_bool}
use Rattle.cedar_decimal_functions.specs.Decimals.{decimal_name, not_a_decimal}
use Rattle.cedar_extension_values.proofs.Literals.{literal_computes}
use Rattle.cedar_decimal_functions.proofs.laws.are_computed.Goals as goal

pub returns-clause-decimals : goal.returns-clause-decimals
returns-clause-decimals c =
    c.constructors_are_faithful.ensures.computed decimal_name decimal_name decimal_name not_a_decimal key_of

pub returns-clause-comparisons : goal.returns-clause-comparisons
returns-clause-comparisons c = λ such. c.functions_of_two_keys.ensures.computed decimal_name decimal_name
    (λ k l. answers_bool (such (slice_cmp nat_cmp k l))) (λ k l. gives_bool (such (slice_cmp nat_cmp k l)))
    (λ k l. literal_computes (bool_literal (such (slice_cmp nat_cmp k l))))
