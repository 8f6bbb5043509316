-- By the laws of constructors, and of functions of two keys.
use Rattle.std.specs.Cmp.Lexicographic.{slice_cmp}
use Rattle.std.specs.Ordering.{nat_cmp}
use Rattle.cedar_model.specs.Terms.{bool_literal}
use Rattle.cedar_decimal.specs.Keys.{key_of}
use Rattle.cedar_extension_values.specs.Functions.{gives_bool}
use Rattle.cedar_decimal_functions.specs.Decimals.{decimal_name}
use Rattle.cedar_extension_values.proofs.Literals.{literal_asks}
use Rattle.cedar_decimal_functions.proofs.laws.ask_nothing.Goals as goal

pub returns-clause-decimals : goal.returns-clause-decimals
returns-clause-decimals c = c.constructors_are_faithful.ensures.nothing_asked decimal_name key_of

pub returns-clause-comparisons : goal.returns-clause-comparisons
returns-clause-comparisons c = λ such. c.functions_of_two_keys.ensures.nothing_asked decimal_name decimal_name
    (λ k l. gives_bool (such (slice_cmp nat_cmp k l))) (λ k l. literal_asks (bool_literal (such (slice_cmp nat_cmp k l))))
