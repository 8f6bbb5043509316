-- Laws of the standard functions.
use Rattle.std.specs.Prelude.{◌≡◌, ◌≢◌, ◌≤◌, List, Some}
use Rattle.cedar_model.specs.Terms.{Text}
use Rattle.cedar_model.specs.Values.{AbstractValue}
use Rattle.cedar_model.specs.World.{Extensions, Functions}
use Rattle.cedar_model.specs.Failures.{PartialValue, out_of_memory, Answer, answers, fails, limit, part_expression}
use Rattle.cedar_model.specs.Agreement.{height}
use Rattle.cedar_model.specs.Restricted.{IsSoundPart}
use Rattle.cedar_model.specs.laws.Restricted.{HoldsUnknown}
use Rattle.cedar_extension_values.specs.Functions.{IsComputed, AsksNothing, AnswersFaithfully}
use Rattle.cedar_standard_functions.specs.Standard.{name_of, answer_of, made_of, standard_named, HaveStandard}
use Rattle.cedar_standard_functions.specs.declared.function.StandardFunction.{StandardFunction}

-- each answers what it computes: the value, or an error of that kind
abbrev pub AreComputed : Type 0
AreComputed = (f : StandardFunction) → IsComputed (answer_of f) (made_of f)

-- none asks for an unknown
abbrev pub AskNothing : Type 0
AskNothing = (f : StandardFunction) → AsksNothing (made_of f)

-- where they are there, each answers faithful values
abbrev pub AreFaithful : Type 0
AreFaithful =
    (X : Extensions) (ans : Functions) → HaveStandard X ans → (f : StandardFunction)
    → AnswersFaithfully X ans (answer_of f)

-- neither the recursion limit nor out of memory; a part is sound, written in at most three levels, and a residual, of
-- which there is none, would hold an unknown
pub record IsLawful (a : Answer) : Type 0 where
  pub meets_no_limit : a ≢ limit
  pub finds_memory : a ≢ fails out_of_memory
  pub sound : (p : PartialValue) → a ≡ answers p → IsSoundPart p
  pub known : (p : PartialValue) → a ≡ answers p → HoldsUnknown p
  pub low : (p : PartialValue) → a ≡ answers p → height (part_expression p) ≤ 3

abbrev pub AreLawful : Type 0
AreLawful = (f : StandardFunction) (vs : List AbstractValue) → IsLawful (answer_of f vs)

-- each is found by its name, and by no other
abbrev pub AreFound : Type 0
AreFound = (f : StandardFunction) → standard_named (name_of f) ≡ Some f

abbrev pub HaveTheirNames : Type 0
HaveTheirNames = (n : Text) (f : StandardFunction) → standard_named n ≡ Some f → name_of f ≡ n
