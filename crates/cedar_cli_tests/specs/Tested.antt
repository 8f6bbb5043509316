-- Tests of policies: what is printed of them.
use Rattle.std.specs.Prelude.{◌≡◌, ⊤, ◌++◌, ◌+◌, ◌==◌, ℕ, Bool, true, false, not, cond, List, [], ◌∷◌, flat_map, codes}
use Rattle.std.specs.Prelude.{Option, Some, None, option_map, IsSomeAnd, string_bytes}
use Rattle.json.specs.Json.{Json, document}
use Rattle.json.specs.Print.{print}
use Rattle.json.specs.Strict.{HasUniqueKeys}
use Rattle.json.specs.Tree.{json_tokens}
use Rattle.cedar_model.specs.Terms.{Text}
use Rattle.cedar_model.specs.World as world
use Rattle.cedar_model.specs.Rules.{StoredCalls}
use Rattle.cedar_json_reader.specs.JsonTexts.{SaysSo}
use Rattle.cedar_expectations.specs.Answers.{AnswerView}
use Rattle.cedar_policy_tests.specs.Failures.{failure, refusal_json, counts_json}
use Rattle.cedar_policy_tests.specs.Said.{SaidTest, tests_in}
use Rattle.cedar_cli.specs.declared.asked.Asked.{Asked}
use Rattle.cedar_cli.specs.declared.asked.Source.{Source}
use Rattle.cedar_cli.specs.declared.asked.Way.{Way}
use Rattle.cedar_cli.specs.declared.decisions.Printed.{Printed}
use Rattle.cedar_cli.specs.Batch.{asking}
use Rattle.cedar_cli.specs.Reasons.{ArePoliciesUnread, IsKnownStoreUnread, IsRequestUnread, IsAskedUnread}
use Rattle.cedar_cli.specs.Standard.{standard_extensions, standard_calls, standard_knowledge}
use Rattle.cedar_regression.specs.Answered.{IsAnswerOf}

-- ---- what a test asks

-- the text of the value, with no space
abbrev pub json_text : Json → Text
json_text j = print (json_tokens j)

-- the same question over these entities
abbrev pub over : Asked → Source → Asked
over q s = record q { entities = Some s }

-- the question of this request, over these entities, if there are any, or over those that are given
abbrev pub question : Asked → Source → Option Source → Asked
question q request None = asking q request
question q request (Some entities) = asking (over q entities) request

-- they are texts of the test's request and, if it has its own, entities
pub record AreSources (t : SaidTest) (request : Source) (entities : Option Source) : Type 0 where
  pub request_is : request.text.now ≡ json_text t.request
  pub entities_are : option_map (λ (s : Source). s.text.now) entities ≡ option_map json_text t.entities

-- ---- one test

-- what is printed of a test, with its end, or nothing; and whether it fails
pub record VerdictView : Type 0 where
  pub line : Text
  pub is_failed : Bool

-- nothing, or this on a line
abbrev pub verdict_of : Option Json → VerdictView
verdict_of None = record { line = []; is_failed = false }
verdict_of (Some j) = record { line = json_text j ++ codes "\n"; is_failed = true }

-- an answer is found: it is told what the test fails in, if it fails
pub record IsJudged (Answers : Asked → AnswerView → Type 0) (q : Asked) (n : ℕ) (t : SaidTest) (v : VerdictView)
    : Type 0 where
  pub request : Source
  pub entities : Option Source
  pub sources_are : AreSources t request entities
  pub answer : AnswerView
  pub answer_is : Answers (question q request entities) answer
  pub verdict_is : v ≡ verdict_of (failure n t answer)

-- the test can't be asked: it fails, and it is told why
pub record IsUnasked (Unread : Option Source → Asked → Type 0) (q : Asked) (n : ℕ) (t : SaidTest) (v : VerdictView)
    : Type 0 where
  pub request : Source
  pub entities : Option Source
  pub sources_are : AreSources t request entities
  pub unread : Unread entities (question q request entities)
  pub why : Text
  pub verdict_is : v ≡ verdict_of (Some (refusal_json n t.name why))

-- what is printed of the test, which has this number
pub data IsVerdict (Answers : Asked → AnswerView → Type 0) (Unread : Option Source → Asked → Type 0) (q : Asked) (n : ℕ)
    (t : SaidTest) (v : VerdictView) : Type 0 where
  judged : IsJudged Answers q n t v → IsVerdict Answers Unread q n t v
  unasked : IsUnasked Unread q n t v → IsVerdict Answers Unread q n t v

-- why a test can't be asked: its request can't be read; or, if it has its own, its entities
abbrev pub IsUnread : world.Extensions → StoredCalls → Option Source → Asked → Type 0
IsUnread X calls None q = IsRequestUnread X calls q
IsUnread X calls (Some s) q = IsAskedUnread X calls q

-- ---- all tests

-- one verdict a test, in order: the first test has this number
abbrev pub AreEach : (ℕ → SaidTest → VerdictView → Type 0) → ℕ → List SaidTest → List VerdictView → Type 0
AreEach Is n [] [] = ⊤
AreEach Is n [] (v ∷ more) = ⊥
AreEach Is n (t ∷ rest) [] = ⊥
AreEach Is n (t ∷ rest) (v ∷ more) = Is n t v × AreEach Is (n + 1) rest more

-- one, if it is so
abbrev pub one_if : Bool → ℕ
one_if true = 1
one_if false = 0

-- how many fail, and how many pass
abbrev pub failed : List VerdictView → ℕ
failed [] = 0
failed (v ∷ more) = one_if v.is_failed + failed more

abbrev pub passed : List VerdictView → ℕ
passed [] = 0
passed (v ∷ more) = one_if (not v.is_failed) + passed more

-- what is printed of all of them, one behind the other
abbrev pub lines_of : List VerdictView → Text
lines_of = flat_map (λ v. v.line)

-- how many pass and fail, on a line
abbrev pub counts_line : ℕ → ℕ → Text
counts_line passed failed = json_text (counts_json passed failed) ++ codes "\n"

-- 1 where one fails, and else 0
abbrev pub status_of : ℕ → ℕ
status_of failed = cond (failed == 0) 0 1

-- the lines of those that fail, and behind them how many pass and fail; and the exit status says whether one fails
pub record AreTestedAs (Answers : Asked → AnswerView → Type 0) (Unread : Option Source → Asked → Type 0) (q : Asked)
    (ts : List SaidTest) (p : Printed) : Type 0 where
  pub verdicts : List VerdictView
  pub each : AreEach (IsVerdict Answers Unread q) 1 ts verdicts
  pub output_is : string_bytes p.output ≡ lines_of verdicts ++ counts_line (passed verdicts) (failed verdicts)
  pub status_is : p.status ≡ status_of (failed verdicts)

-- the whole: the text is an array of tests, and to each of them it is compared what the policies of the text answer
pub record IsTested (text : Text) (q : Asked) (tests : Text) (w : Way) (p : Printed) : Type 0 where
  pub said : List SaidTest
  pub tests_are : SaysSo tests (λ j. tests_in j ≡ Some said)
  pub tested : AreTestedAs (IsAnswerOf text w) (IsUnread standard_extensions standard_calls) q said p

-- ---- what is refused

-- the text is no JSON, or an object in it has a key twice, or it is no array of tests
pub data AreNoTests (tests : Text) : Type 0 where
  no_json : document tests ≡ None → AreNoTests tests
  key_twice : IsSomeAnd (document tests) (λ j. ¬ HasUniqueKeys j) → AreNoTests tests
  no_tests : IsSomeAnd (document tests) (λ j. tests_in j ≡ None) → AreNoTests tests

-- the policies can't be read, or the entities that are given, or the tests
pub data AreUntested (text : Text) (q : Asked) (tests : Text) : Type 0 where
  policies_unread : ArePoliciesUnread standard_knowledge text → AreUntested text q tests
  entities_unread : IsKnownStoreUnread standard_extensions standard_calls q.entities q.max_ancestors
      → AreUntested text q tests
  tests_unread : AreNoTests tests → AreUntested text q tests
