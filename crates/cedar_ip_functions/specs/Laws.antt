-- Laws of the functions of ranges.
use Rattle.std.specs.Prelude.{ℕ, Bool, List}
use Rattle.cedar_model.specs.World.{Extensions, Functions}
use Rattle.cedar_extension_values.specs.Functions.{HasFunction, IsComputed, AsksNothing, AnswersFaithfully}
use Rattle.cedar_ip_functions.specs.Ranges.{ip_name, ip_answer, ip_made}
use Rattle.cedar_ip_functions.specs.Questions.{asked, asked_made, is_in_range_answer}

-- whatever is asked
abbrev pub QuestionsAreComputed : Type 0
QuestionsAreComputed = (such : List ℕ → Bool) → IsComputed (asked such) (asked_made such)

abbrev pub QuestionsAskNothing : Type 0
QuestionsAskNothing = (such : List ℕ → Bool) → AsksNothing (asked_made such)

-- where `ip` is there and computes that
abbrev pub RangesAreFaithful : Type 0
RangesAreFaithful =
    (X : Extensions) (ans : Functions) → HasFunction X ans ip_name 1 ip_made → AnswersFaithfully X ans ip_answer

abbrev pub QuestionsAreFaithful : Type 0
QuestionsAreFaithful =
    (X : Extensions) (ans : Functions) (such : List ℕ → Bool) → AnswersFaithfully X ans (asked such)

abbrev pub InRangeIsFaithful : Type 0
InRangeIsFaithful = (X : Extensions) (ans : Functions) → AnswersFaithfully X ans is_in_range_answer
