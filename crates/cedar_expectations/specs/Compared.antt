-- What two answers to each of many requests differ in, line by line.
use Rattle.std.specs.Prelude.{◌++◌, ◌||◌, ◌+◌, ⊤, ℕ, Bool, true, false, cond, List, [], ◌∷◌, flat_map}
use Rattle.std.specs.Prelude.{codes, string_bytes}
use Rattle.json.specs.Json.{Json}
use Rattle.json.specs.Print.{print}
use Rattle.json.specs.Tree.{json_tokens}
use Rattle.cedar_model.specs.Terms.{Text}
use Rattle.cedar_expectations.specs.declared.comparisons.Comparison.{Comparison}
use Rattle.cedar_expectations.specs.Answers.{AnswerView}
use Rattle.cedar_expectations.specs.Differences.{is_same, difference_json}

-- what is printed of a request, with its end, or nothing; and whether it is refused, or answered differently
pub record ComparisonView : Type 0 where
  pub line : Text
  pub is_refused : Bool
  pub is_different : Bool

abbrev pub comparison_view : Comparison → ComparisonView
comparison_view c =
    record { line = string_bytes c.line; is_refused = c.is_refused; is_different = c.is_different }

-- a value stands on a line
abbrev pub line_of : Json → Text
line_of j = print (json_tokens j) ++ codes "\n"

-- nothing differs
abbrev pub nothing : ComparisonView
nothing = record { line = []; is_refused = false; is_different = false }

-- this does
abbrev pub different : Json → ComparisonView
different j = record { line = line_of j; is_refused = false; is_different = true }

-- of the two answers to the request of this number: what differs is printed, if anything does
abbrev pub compared : ℕ → AnswerView → AnswerView → ComparisonView
compared n old new = cond (is_same old new) nothing (different (difference_json n old new))

-- ---- many

-- one comparison an item, in order: the first item has this number
abbrev pub AreEach : {A : Type 0} → (ℕ → A → ComparisonView → Type 0) → ℕ → List A → List ComparisonView → Type 0
AreEach Is n [] [] = ⊤
AreEach Is n [] (c ∷ more) = ⊥
AreEach Is n (a ∷ rest) [] = ⊥
AreEach Is n (a ∷ rest) (c ∷ more) = Is n a c × AreEach Is (n + 1) rest more

-- one is refused
abbrev pub is_any_refused : List ComparisonView → Bool
is_any_refused [] = false
is_any_refused (c ∷ more) = c.is_refused || is_any_refused more

-- one is answered differently
abbrev pub is_any_different : List ComparisonView → Bool
is_any_different [] = false
is_any_different (c ∷ more) = c.is_different || is_any_different more

-- what is printed of all of them, one behind the other
abbrev pub lines_of : List ComparisonView → Text
lines_of = flat_map (λ c. c.line)

-- 1 where one is refused; else 2 where one is answered differently, and else 0
abbrev pub status_of : Bool → Bool → ℕ
status_of is_refused is_different = cond is_refused 1 (cond is_different 2 0)
