-- What is printed of one test, and what holds of the tests alone.
use Rattle.std.proofs.Common.{◌≡◌, sym, ap, subst, ◌∙◌, ◌+◌, ◌++◌, ℕ, List, [], ◌∷◌, Option, Some, None, option_map, string_bytes, Result, Ok, Err, IfOk}
use Rattle.std.specs.Prelude.{IsSomeAnd}
use Rattle.std.specs.declared.alloc.AllocError.{AllocError}
use Rattle.json.specs.Json.{Json, document}
use Rattle.json.specs.Strict.{HasUniqueKeys}
use Rattle.cedar_model.specs.Terms.{Text}
use Rattle.cedar_model.specs.World as world
use Rattle.cedar_model.specs.Rules.{StoredCalls}
use Rattle.cedar_layers.specs.declared.policies.policy_set.PolicySet.{PolicySet}
use Rattle.cedar_json_reader.specs.JsonTexts.{SaysSo}
use Rattle.cedar_expectations.specs.Answers.{AnswerView}
use Rattle.cedar_policy_tests.specs.Failures.{failure}
use Rattle.cedar_policy_tests.specs.Said.{SaidTest, tests_in}
use Rattle.cedar_cli.specs.declared.asked.Asked.{Asked}
use Rattle.cedar_cli.specs.declared.asked.Source.{Source}
use Rattle.cedar_cli.specs.declared.asked.Way.{Way}
use Rattle.cedar_cli.specs.declared.decisions.Printed.{Printed}
use Rattle.cedar_cli.specs.declared.refusal.Refusal.{Refusal}
use Rattle.cedar_cli.specs.declared.refusal.Refusal.TheVariants as refusals
use Rattle.cedar_cli.specs.Batch.{IsTold}
use Rattle.cedar_cli.specs.Reasons.{IsToldFor}
use Rattle.cedar_cli.specs.Standard.{standard_extensions, standard_calls}
use Rattle.cedar_cli_tests.specs.declared.results.Results.{Results}
use Rattle.cedar_cli_tests.specs.declared.results.Verdict.{Verdict}
use Rattle.cedar_cli_tests.specs.declared.texts.TestTexts.{TestTexts}
use Rattle.cedar_cli_tests.specs.Results.{verdict_view, IsRefusalTold, AreResults, AreTestedBy, IsUntestedBy, by_entities, by_tests}
use Rattle.cedar_cli_tests.specs.Texts.{AreTexts}
use Rattle.cedar_cli_tests.specs.Tested.{VerdictView, verdict_of, AreSources, question, IsVerdict, judged, unasked, AreEach, AreNoTests, no_tests, lines_of, counts_line, status_of, passed, AreUntested, entities_unread, tests_unread}

-- ---- one test

-- a refusal that is told is told for its reason
told_for : (Why : Type 0) (r : Refusal) → IsTold r → IsToldFor Why r → Why
told_for Why refusals.Memory told h = absurd told
told_for Why (refusals.Told lines) told h = h

-- the sources are those of the test, as its texts are
pub sources_of : (t : SaidTest) (x : TestTexts) (request : Source) (entities : Option Source) → AreTexts t x
    → request.text.now ≡ string_bytes x.request
    → option_map (λ (s : Source). s.text.now) entities ≡ option_map string_bytes x.entities → AreSources t request entities
sources_of t x request entities texts request_is entities_are =
    record { request_is = request_is ∙ texts.request_is; entities_are = entities_are ∙ texts.entities_are }

module _ (Answers : Asked → AnswerView → Type 0) (Unread : Option Source → Asked → Type 0) (q : Asked) (t : SaidTest)
    (request : Source) (entities : Option Source) (sources : AreSources t request entities) where
  pub judged_so : (n : ℕ) (a : AnswerView) (r : Result Verdict AllocError) → Answers (question q request entities) a
      → IfOk r (λ v. verdict_view v ≡ verdict_of (failure n t a))
      → IfOk r (λ v. IsVerdict Answers Unread q n t (verdict_view v))
  judged_so n a (Ok v) answer is = judged (record {
    request = request;
    entities = entities;
    sources_are = sources;
    answer = a;
    answer_is = answer;
    verdict_is = is;
  })
  judged_so n a (Err e) answer is = tt

  pub refused_so : (n : ℕ) (e : Refusal) (r : Result Verdict AllocError)
      → IsToldFor (Unread entities (question q request entities)) e → IfOk r (λ v. IsTold e)
      → IfOk r (λ v. IsRefusalTold n t.name (verdict_view v))
      → IfOk r (λ v. IsVerdict Answers Unread q n t (verdict_view v))
  refused_so n e (Ok v) why told is = unasked (record {
    request = request;
    entities = entities;
    sources_are = sources;
    unread = told_for (Unread entities (question q request entities)) e told why;
    why = is.0;
    verdict_is = is.1;
  })
  refused_so n e (Err none) why told is = tt

-- ---- what holds of each answer alone

module _ (A B : Asked → AnswerView → Type 0) (Unread : Option Source → Asked → Type 0) (q : Asked)
    (f : (request : Source) (entities : Option Source) (a : AnswerView) → A (question q request entities) a
    → B (question q request entities) a) where
  verdict_as : (n : ℕ) (t : SaidTest) (v : VerdictView) → IsVerdict A Unread q n t v → IsVerdict B Unread q n t v
  verdict_as n t v (judged h) = judged (record {
    request = h.request;
    entities = h.entities;
    sources_are = h.sources_are;
    answer = h.answer;
    answer_is = f h.request h.entities h.answer h.answer_is;
    verdict_is = h.verdict_is;
  })
  verdict_as n t v (unasked h) = unasked h

  pub each_as : (n : ℕ) (ts : List SaidTest) (vs : List VerdictView) → AreEach (IsVerdict A Unread q) n ts vs
      → AreEach (IsVerdict B Unread q) n ts vs
  each_as n [] [] h = h
  each_as n [] (v ∷ vs) h = h
  each_as n (t ∷ ts) [] h = h
  each_as n (t ∷ ts) (v ∷ vs) h = (verdict_as n t v h.0, each_as (n + 1) ts vs h.1)

-- ---- texts of tests

-- what is so of the value is so of the text
pub says : (text : Text) (j : Json) (P : Json → Type 0) → document text ≡ Some j → HasUniqueKeys j → P j → SaysSo text P
says text j P said unique h = subst (λ o. IsSomeAnd o (λ k. HasUniqueKeys k × P k)) (sym said) (unique, h)

pub not_tests : (text : Text) (j : Json) → document text ≡ Some j → tests_in j ≡ None → AreNoTests text
not_tests text j said none = no_tests (subst (λ o. IsSomeAnd o (λ k. tests_in k ≡ None)) (sym said) none)

-- a refusal for this reason, or for want of memory
pub told_as : (P : Type 0) (r : Refusal) → P → IsToldFor P r
told_as P refusals.Memory h = tt
told_as P (refusals.Told lines) h = h

-- ---- all tests, printed

module _ (X : world.Extensions) (calls : StoredCalls) (ps : PolicySet) (w : Way) (q : Asked) (ts : List SaidTest)
    (all : Results) where
  pub all_printed : (p : Printed) → AreResults X calls ps w q ts all
      → string_bytes p.output ≡ string_bytes all.output ++ counts_line all.passed all.failed
      → p.status ≡ status_of all.failed → AreTestedBy X calls ps w q ts p
  all_printed p of output status = record {
    verdicts = of.verdicts;
    each = of.each;
    output_is = output ∙ ap (λ (x : Text). x ++ counts_line all.passed all.failed) of.output_is
        ∙ ap (λ n. lines_of of.verdicts ++ counts_line n all.failed) of.passed_is
        ∙ ap (λ n. lines_of of.verdicts ++ counts_line (passed of.verdicts) n) of.failed_is;
    status_is = status ∙ ap status_of of.failed_is;
  }

-- ---- what is refused

pub untested_alone : (text : Text) (q : Asked) (tests : Text)
    → IsUntestedBy standard_extensions standard_calls q tests → AreUntested text q tests
untested_alone text q tests (by_entities h) = entities_unread h
untested_alone text q tests (by_tests h) = tests_unread h
