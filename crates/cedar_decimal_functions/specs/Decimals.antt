-- What the constructor `decimal` answers and computes.
use Rattle.std.specs.Prelude.{codes}
use Rattle.cedar_model.specs.Terms.{Text}
use Rattle.cedar_model.specs.Failures.{Failure, function_has_failed}
use Rattle.cedar_decimal.specs.Keys.{key_of}
use Rattle.cedar_extension_values.specs.Functions.{Answering, of_constructor, Computing, made_by_constructor}

-- the name of the extension, of its type and of its constructor
abbrev pub decimal_name : Text
decimal_name = codes "decimal"

abbrev pub not_a_decimal : Text
not_a_decimal = codes "not a decimal with one to four digits behind the dot, within 64 bits of ten-thousandths"

-- the decimal that the text writes, written as the call on that text
abbrev pub decimal_answer : Answering
decimal_answer = of_constructor decimal_name decimal_name (function_has_failed decimal_name not_a_decimal) key_of

abbrev pub decimal_made : Computing
decimal_made = made_by_constructor decimal_name key_of
