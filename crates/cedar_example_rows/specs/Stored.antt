-- What the stored functions of the program and its tests answer.
use Rattle.std.specs.Prelude.{ℕ, ℤ, pos, Bool, true, false, List, [], ◌∷◌, codes, int_rem, Some, None}
use Rattle.std.proofs.Common.{zero}
use Rattle.cedar_model.specs.Terms.{bool_literal, long_literal, bool_type, long_type}
use Rattle.cedar_model.specs.Values.{AbstractValue, plain, extension_value}
use Rattle.cedar_model.specs.Outcomes.{type_error, function_failed}
use Rattle.cedar_model.specs.World.{FunctionAnswer, function_gives, function_errs, function_asks}

abbrev pub is_zero : ℤ → Bool
is_zero (pos zero) = true
is_zero n = false

-- one long gives whether it is even
unfoldable pub even_of : List AbstractValue → FunctionAnswer
even_of (plain (long_literal n) ∷ vs) = function_gives (plain (bool_literal (is_zero (int_rem n (pos 2)))))
even_of vs = function_errs type_error

-- nothing is answered
abbrev pub fail_of : List AbstractValue → FunctionAnswer
fail_of vs = function_errs function_failed

-- the value of the type `T` with this key
abbrev pub made_of : ℕ → List AbstractValue → FunctionAnswer
made_of k vs = function_gives (extension_value (codes "T") (k ∷ []))

-- whether the user is asked, which is not known
abbrev pub ask_of : List AbstractValue → FunctionAnswer
ask_of vs = function_asks (codes "asked") (Some bool_type)

-- the unknown `q`, which stands for a long
abbrev pub ask_long_of : List AbstractValue → FunctionAnswer
ask_long_of vs = function_asks (codes "q") (Some long_type)

-- the unknown `q`, which may stand for any value
abbrev pub ask_any_of : List AbstractValue → FunctionAnswer
ask_any_of vs = function_asks (codes "q") None
