use Rattle.std.proofs.Common.{◌≡◌, Some, None}
use Rattle.json.specs.Value.{value_view}
use Rattle.cedar_extensions.specs.Extensions.{extensions_view, calls_of}
use Rattle.cedar_policy_tests.specs.Said.{tests_in}
use Rattle.cedar_cli.proofs.Composed.{of_ok, of_err}
use Rattle.cedar_cli.proofs.Reasoned.{because}
use Rattle.cedar_cli_tests.specs.Tested.{AreNoTests}
use Rattle.cedar_cli_tests.specs.Results.{AreReadTestedBy, IsTextTestedBy}
use Rattle.cedar_cli_tests.proofs.Judging.{says, not_tests}
use Rattle.cedar_cli_tests.proofs.runs.run_text.Goals as goal

pub returns-in-Ok-clause-tested : goal.returns-in-Ok-clause-tested
returns-in-Ok-clause-tested g c =
    let x = c.args.extensions.now in
    let e = c.args.tested in
    let q = c.args.asked.now in
    let text = c.args.tests.text.now in
    let j = value_view c.in-Ok.value in
    of_ok (AreReadTestedBy (extensions_view x) (calls_of x) e.policies.now e.way q j)
    (IsTextTestedBy (extensions_view x) (calls_of x) e.policies.now e.way q text)
    (λ p h. record {
      said = h.said;
      tests_are = says text j (λ k. tests_in k ≡ Some h.said) c.in-Ok.ensures.said c.in-Ok.ensures.unique h.tests_are;
      tested = h.tested;
    })
    c.run_value.result c.run_value.ensures.tested

pub returns-in-Ok-clause-refused : goal.returns-in-Ok-clause-refused
returns-in-Ok-clause-refused g c =
    let text = c.args.tests.text.now in
    let j = value_view c.in-Ok.value in
    of_err _ _
    (λ r. because (tests_in j ≡ None) (AreNoTests text) (not_tests text j c.in-Ok.ensures.said) r)
    c.run_value.result c.run_value.ensures.refused
