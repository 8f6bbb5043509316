-- Laws of the functions of dates, times and durations.
use Rattle.std.specs.Prelude.{ℤ}
use Rattle.cedar_model.specs.World.{Extensions, Functions}
use Rattle.cedar_extension_values.specs.Functions.{Answering, HasFunction, IsComputed, AsksNothing, AnswersFaithfully}
use Rattle.cedar_datetime_functions.specs.Names.{datetime_name, duration_name, offset_name}
use Rattle.cedar_datetime_functions.specs.Constructors.{datetime_made, duration_made}
use Rattle.cedar_datetime_functions.specs.Operations.{offset_made}
use Rattle.cedar_datetime_functions.specs.Amounts.{amount, amount_made}

-- whatever unit is counted
abbrev pub AmountsAreComputed : Type 0
AmountsAreComputed = (units_in : ℤ → ℤ) → IsComputed (amount units_in) (amount_made units_in)

abbrev pub AmountsAskNothing : Type 0
AmountsAskNothing = (units_in : ℤ → ℤ) → AsksNothing (amount_made units_in)

-- where `datetime` is there and computes its definition
abbrev pub FaithfulByDatetime : Answering → Type 0
FaithfulByDatetime answer =
    (X : Extensions) (ans : Functions) → HasFunction X ans datetime_name 1 datetime_made
    → AnswersFaithfully X ans answer

-- where `duration` is
abbrev pub FaithfulByDuration : Answering → Type 0
FaithfulByDuration answer =
    (X : Extensions) (ans : Functions) → HasFunction X ans duration_name 1 duration_made
    → AnswersFaithfully X ans answer

-- where `datetime`, `duration` and `offset` are
abbrev pub FaithfulByOffset : Answering → Type 0
FaithfulByOffset answer =
    (X : Extensions) (ans : Functions) → HasFunction X ans datetime_name 1 datetime_made
    → HasFunction X ans duration_name 1 duration_made → HasFunction X ans offset_name 2 offset_made
    → AnswersFaithfully X ans answer

-- anywhere
abbrev pub AmountsAreFaithful : Type 0
AmountsAreFaithful =
    (X : Extensions) (ans : Functions) (units_in : ℤ → ℤ) → AnswersFaithfully X ans (amount units_in)
