-- What the stored function answers.
use Rattle.std.specs.Prelude.{pos, ◌&&◌, List, [], ◌∷◌, int_le, int_lt}
use Rattle.cedar_policy_core.specs.Model.Terms.{bool_literal, long_literal}
use Rattle.cedar_policy_core.specs.Model.Values.{AbstractValue, plain}
use Rattle.cedar_policy_core.specs.Model.Outcomes.{type_error}
use Rattle.cedar_policy_core.specs.Model.World.{FunctionAnswer, function_gives, function_errs}

-- an hour gives whether it is one from 8 to 17
unfoldable pub is_open_of : List AbstractValue → FunctionAnswer
is_open_of (plain (long_literal h) ∷ vs) =
    function_gives (plain (bool_literal (int_le (pos 8) h && int_lt h (pos 18))))
is_open_of vs = function_errs type_error
