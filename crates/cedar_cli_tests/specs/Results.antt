-- Tests of policies that are read: what is printed of them.
use Rattle.std.specs.Prelude.{◌≡◌, ℕ, List, Some, string_bytes}
use Rattle.json.specs.Json.{Json}
use Rattle.cedar_model.specs.Terms.{Text}
use Rattle.cedar_model.specs.World as world
use Rattle.cedar_model.specs.Rules.{StoredCalls}
use Rattle.cedar_layers.specs.declared.policies.entities.Entities.{Entities}
use Rattle.cedar_layers.specs.declared.policies.policy_set.PolicySet.{PolicySet}
use Rattle.cedar_json_reader.specs.JsonTexts.{SaysSo}
use Rattle.cedar_expectations.specs.Answers.{AnswerView}
use Rattle.cedar_policy_tests.specs.Failures.{refusal_json}
use Rattle.cedar_policy_tests.specs.Said.{SaidTest, tests_in}
use Rattle.cedar_cli.specs.declared.asked.Asked.{Asked}
use Rattle.cedar_cli.specs.declared.asked.Way.{Way}
use Rattle.cedar_cli.specs.declared.decisions.Printed.{Printed}
use Rattle.cedar_cli.specs.Questions.{IsKnownStore}
use Rattle.cedar_cli.specs.Reasons.{IsKnownStoreUnread}
use Rattle.cedar_regression.specs.Answered.{IsAnswerOver}
use Rattle.cedar_cli_tests.specs.declared.results.Results.{Results}
use Rattle.cedar_cli_tests.specs.declared.results.Verdict.{Verdict}
use Rattle.cedar_cli_tests.specs.Tested.{VerdictView, verdict_of, IsVerdict, IsUnread, AreEach, lines_of, passed, failed}
use Rattle.cedar_cli_tests.specs.Tested.{AreTestedAs, AreNoTests}

-- of these policies: there is the store that is asked over, and an answer
pub record IsAnsweredBy (X : world.Extensions) (calls : StoredCalls) (ps : PolicySet) (w : Way) (q : Asked)
    (a : AnswerView) : Type 0 where
  pub entities : Entities
  pub store_is : IsKnownStore X calls q entities
  pub answer_is : IsAnswerOver X calls ps entities w q a

abbrev pub verdict_view : Verdict → VerdictView
verdict_view v = record { line = string_bytes v.line; is_failed = v.is_failed }

-- what is printed of one test
abbrev pub IsVerdictBy : world.Extensions → StoredCalls → PolicySet → Way → Asked → ℕ → SaidTest → VerdictView → Type 0
IsVerdictBy X calls ps w = IsVerdict (IsAnsweredBy X calls ps w) (IsUnread X calls)

-- of one that can't be asked
abbrev pub IsRefusalTold : ℕ → Text → VerdictView → Type 0
IsRefusalTold n name v = (why : Text) × (v ≡ verdict_of (Some (refusal_json n name why)))

-- of all of them, before that is printed
pub record AreResults (X : world.Extensions) (calls : StoredCalls) (ps : PolicySet) (w : Way) (q : Asked)
    (ts : List SaidTest) (all : Results) : Type 0 where
  pub verdicts : List VerdictView
  pub each : AreEach (IsVerdictBy X calls ps w q) 1 ts verdicts
  pub output_is : string_bytes all.output ≡ lines_of verdicts
  pub passed_is : all.passed ≡ passed verdicts
  pub failed_is : all.failed ≡ failed verdicts

-- the same, printed
abbrev pub AreTestedBy : world.Extensions → StoredCalls → PolicySet → Way → Asked → List SaidTest → Printed → Type 0
AreTestedBy X calls ps w q ts p = AreTestedAs (IsAnsweredBy X calls ps w) (IsUnread X calls) q ts p

-- the value is an array of them
pub record AreReadTestedBy (X : world.Extensions) (calls : StoredCalls) (ps : PolicySet) (w : Way) (q : Asked) (j : Json)
    (p : Printed) : Type 0 where
  pub said : List SaidTest
  pub tests_are : tests_in j ≡ Some said
  pub tested : AreTestedBy X calls ps w q said p

-- the text says them
pub record IsTextTestedBy (X : world.Extensions) (calls : StoredCalls) (ps : PolicySet) (w : Way) (q : Asked)
    (tests : Text) (p : Printed) : Type 0 where
  pub said : List SaidTest
  pub tests_are : SaysSo tests (λ j. tests_in j ≡ Some said)
  pub tested : AreTestedBy X calls ps w q said p

-- the entities that are given can't be read, or the tests
pub data IsUntestedBy (X : world.Extensions) (calls : StoredCalls) (q : Asked) (tests : Text) : Type 0 where
  by_entities : IsKnownStoreUnread X calls q.entities q.max_ancestors → IsUntestedBy X calls q tests
  by_tests : AreNoTests tests → IsUntestedBy X calls q tests
