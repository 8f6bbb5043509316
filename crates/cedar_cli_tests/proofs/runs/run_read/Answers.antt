use Rattle.cedar_extensions.specs.Extensions.{extensions_view, calls_of}
use Rattle.cedar_cli.proofs.Composed.{of_err}
use Rattle.cedar_cli.proofs.Reasoned.{because}
use Rattle.cedar_cli_tests.specs.Tested.{AreNoTests}
use Rattle.cedar_cli_tests.specs.Results.{IsUntestedBy, by_tests}
use Rattle.cedar_cli_tests.proofs.runs.run_read.Goals as goal

pub returns-clause-refused : goal.returns-clause-refused
returns-clause-refused g c =
    let x = c.args.extensions.now in
    let q = c.args.asked.now in
    let text = c.args.tests.text.now in
    of_err _ _
    (λ r. because (AreNoTests text) (IsUntestedBy (extensions_view x) (calls_of x) q text) (λ h. by_tests h) r)
    c.run_text-printed.result c.run_text-printed.ensures.refused
