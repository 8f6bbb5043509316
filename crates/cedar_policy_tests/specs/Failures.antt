-- Which answers a test passes, and what differs where it fails.
use Rattle.std.specs.Prelude.{◌++◌, ◌==◌, ℕ, ℤ, pos, negsuc, Bool, true, false, ◌&&◌, cond, List, [], ◌∷◌, length}
use Rattle.std.specs.Prelude.{Option, Some, None, codes}
use Rattle.std.specs.Fmt.{signed_decimal}
use Rattle.json.specs.Json.{Json, number, string}
use Rattle.cedar_model.specs.Terms.{Text}
use Rattle.cedar_model.specs.Policies.{Decision}
use Rattle.cedar_json_writer.specs.Responses.{decision_json}
use Rattle.cedar_json_writer.specs.Texts.{texts_json, object_of}
use Rattle.cedar_expectations.specs.Answers.{AnswerView}
use Rattle.cedar_expectations.specs.Differences.{is_same_decision, count_json, pair_json}
use Rattle.cedar_expectations.specs.Lists.{only_in, have_same}
use Rattle.cedar_policy_tests.specs.Said.{SaidTest}

-- ---- what passes

-- the reasons are those that are named, where any are, in any order
abbrev pub has_reasons : Option (List Text) → List Text → Bool
has_reasons None found = true
has_reasons (Some names) found = have_same names found

abbrev pub is_count : ℤ → ℕ → Bool
is_count (pos n) found = n == found
is_count (negsuc n) found = false

-- so many policies err, where it is said how many
abbrev pub has_count : Option ℤ → ℕ → Bool
has_count None found = true
has_count (Some n) found = is_count n found

-- decision, reasons and the count of the errors are those that the test expects
abbrev pub passes : SaidTest → AnswerView → Bool
passes t a =
    is_same_decision t.decision a.decision && (has_reasons t.reason a.reasons && has_count t.num_errors (length a.errors))

-- ---- what differs, as members of an object

abbrev pub Members : Type 0
Members = List (Text × Json)

-- an object of what is expected and of what is found
abbrev pub expected_json : Json → Json → Json
expected_json expected found = pair_json (codes "expected") expected (codes "found") found

abbrev pub decision_differs : Decision → Decision → Members
decision_differs expected found = cond (is_same_decision expected found) []
    ((codes "decision", expected_json (decision_json (Some expected)) (decision_json (Some found))) ∷ [])

-- the names that are expected and not found, and those that are found and not expected
abbrev pub reasons_json : List Text → List Text → Json
reasons_json expected found =
    pair_json (codes "missing") (texts_json (only_in expected found)) (codes "unexpected") (texts_json (only_in found expected))

abbrev pub reason_differs : Option (List Text) → List Text → Members
reason_differs None found = []
reason_differs (Some names) found =
    cond (have_same names found) [] ((codes "reason", reasons_json names found) ∷ [])

-- how many errors are expected, how many there are, and what they say
abbrev pub errors_json : ℤ → List Text → Json
errors_json expected found = object_of (
    (codes "expected", number (signed_decimal expected)) ∷ (codes "found", count_json (length found))
    ∷ (codes "errors", texts_json found) ∷ [])

abbrev pub count_differs : Option ℤ → List Text → Members
count_differs None found = []
count_differs (Some n) found =
    cond (is_count n (length found)) [] ((codes "num_errors", errors_json n found) ∷ [])

-- ---- what is told

-- the number of the test, and what it is called
abbrev pub test_members : ℕ → Text → Members
test_members n name = (codes "test", count_json n) ∷ (codes "name", string name) ∷ []

-- of a test that fails: which it is, and each of these that differs
abbrev pub failure_json : ℕ → SaidTest → AnswerView → Json
failure_json n t a = object_of (
    ((test_members n t.name ++ decision_differs t.decision a.decision) ++ reason_differs t.reason a.reasons)
    ++ count_differs t.num_errors a.errors)

abbrev pub failure_if : Bool → ℕ → SaidTest → AnswerView → Option Json
failure_if true n t a = None
failure_if false n t a = Some (failure_json n t a)

-- what is told of a test, of this number, to which this is answered
abbrev pub failure : ℕ → SaidTest → AnswerView → Option Json
failure n t a = failure_if (passes t a) n t a

-- of a test that can't be asked: which it is, and why
abbrev pub refusal_json : ℕ → Text → Text → Json
refusal_json n name why = object_of (test_members n name ++ (codes "error", string why) ∷ [])

-- how many tests pass, and how many fail
abbrev pub counts_json : ℕ → ℕ → Json
counts_json passed failed = pair_json (codes "passed") (count_json passed) (codes "failed") (count_json failed)
