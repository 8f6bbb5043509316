-- Laws of the functions of decimals.
use Rattle.std.specs.Prelude.{Bool}
use Rattle.std.specs.declared.cmp.Ordering.{Ordering}
use Rattle.cedar_model.specs.World.{Extensions, Functions}
use Rattle.cedar_extension_values.specs.Functions.{HasFunction, IsComputed, AsksNothing, AnswersFaithfully}
use Rattle.cedar_decimal_functions.specs.Decimals.{decimal_name, decimal_answer, decimal_made}
use Rattle.cedar_decimal_functions.specs.Comparisons.{compared, compared_made}

-- whichever order is asked for
abbrev pub ComparisonsAreComputed : Type 0
ComparisonsAreComputed = (such : Ordering → Bool) → IsComputed (compared such) (compared_made such)

abbrev pub ComparisonsAskNothing : Type 0
ComparisonsAskNothing = (such : Ordering → Bool) → AsksNothing (compared_made such)

-- where `decimal` is there and computes that
abbrev pub DecimalsAreFaithful : Type 0
DecimalsAreFaithful =
    (X : Extensions) (ans : Functions) → HasFunction X ans decimal_name 1 decimal_made
    → AnswersFaithfully X ans decimal_answer

abbrev pub ComparisonsAreFaithful : Type 0
ComparisonsAreFaithful =
    (X : Extensions) (ans : Functions) (such : Ordering → Bool) → AnswersFaithfully X ans (compared such)
