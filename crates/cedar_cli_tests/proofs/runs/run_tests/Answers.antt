-- The standard extensions alone are those that the definitions name.
use Rattle.std.proofs.Common.{subst}
use Rattle.cedar_model.specs.Agreement.{AgreesWithFunctions}
use Rattle.cedar_extensions.specs.Extensions.{extensions_view, calls_of}
use Rattle.cedar_text_parser.specs.PolicyReading.{AreAllRead}
use Rattle.cedar_standard_functions.specs.Standard.{standard_answers}
use Rattle.cedar_cli.specs.Questions.{levels}
use Rattle.cedar_cli.specs.Reasons.{IsToldFor}
use Rattle.cedar_cli.specs.Standard.{standard_extensions, standard_calls, standard_knowledge}
use Rattle.cedar_cli.proofs.Alone.{calls_alone, view_alone, known_alone}
use Rattle.cedar_cli.proofs.Composed.{of_ok, of_err}
use Rattle.cedar_cli.proofs.Reasoned.{because}
use Rattle.cedar_regression.specs.Answered.{IsAnswerOf}
use Rattle.cedar_regression.proofs.Lines.{answered_alone}
use Rattle.cedar_cli_tests.specs.Tested.{question, IsUnread, IsTested, AreUntested}
use Rattle.cedar_cli_tests.specs.Results.{IsAnsweredBy, IsTextTestedBy, IsUntestedBy}
use Rattle.cedar_cli_tests.proofs.Judging.{each_as, untested_alone}
use Rattle.cedar_cli_tests.proofs.runs.run_tests.Goals as goal

pub returns-clause-tested : goal.returns-clause-tested
returns-clause-tested c =
    let x = c.all_available-extensions.result in
    let none = c.all_available-extensions.ensures.extensions in
    let there = c.all_available-extensions.ensures.standard in
    let parsed = c.in_ok-parsed.parsed in
    let text = c.args.policies.text.now in
    let tests = c.args.tests.text.now in
    let q = c.args.asked.now in
    let w = c.args.way in
    let agree : AgreesWithFunctions standard_answers standard_calls =
    subst (λ calls. AgreesWithFunctions standard_answers calls) (calls_alone x none there)
    c.all_available-extensions.ensures.agrees in
    let read : AreAllRead standard_knowledge text levels parsed =
    subst (λ k. AreAllRead k text levels parsed) (known_alone x none there) c.in_ok-parsed.ensures.read in
    let calls = c.known_calls_of_policies.ensures.policies in
    let ask = c.functions_are_computed.ensures.nothing_asked in
    of_ok (IsTextTestedBy (extensions_view x) (calls_of x) parsed.policies w q tests) (IsTested text q tests w)
    (λ p h.
    let viewed = subst (λ v. IsTextTestedBy v (calls_of x) parsed.policies w q tests p) (view_alone x none there) h in
    let by = subst (λ f. IsTextTestedBy standard_extensions f parsed.policies w q tests p)
    (calls_alone x none there) viewed in
    record {
      said = by.said;
      tests_are = by.tests_are;
      tested = record {
        verdicts = by.tested.verdicts;
        each = each_as (IsAnsweredBy standard_extensions standard_calls parsed.policies w) (IsAnswerOf text w)
            (IsUnread standard_extensions standard_calls) q
            (λ request entities a is. answered_alone calls ask agree text parsed read c.in_ok-parsed.ensures.low
            is.entities w (question q request entities) a is.store_is is.answer_is)
            1 by.said by.tested.verdicts by.tested.each;
        output_is = by.tested.output_is;
        status_is = by.tested.status_is;
      };
    })
    c.run_read-printed.result c.run_read-printed.ensures.tested

pub returns-clause-refused : goal.returns-clause-refused
returns-clause-refused c =
    let x = c.all_available-extensions.result in
    let none = c.all_available-extensions.ensures.extensions in
    let there = c.all_available-extensions.ensures.standard in
    let q = c.args.asked.now in
    let text = c.args.policies.text.now in
    let tests = c.args.tests.text.now in
    of_err (IsToldFor (IsUntestedBy (extensions_view x) (calls_of x) q tests)) (IsToldFor (AreUntested text q tests))
    (λ r. because (IsUntestedBy (extensions_view x) (calls_of x) q tests) (AreUntested text q tests)
    (λ h. untested_alone text q tests
    (subst (λ calls. IsUntestedBy standard_extensions calls q tests) (calls_alone x none there)
    (subst (λ v. IsUntestedBy v (calls_of x) q tests) (view_alone x none there) h))) r)
    c.run_read-printed.result c.run_read-printed.ensures.refused
