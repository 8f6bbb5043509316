use Rattle.cedar_extensions.specs.Extensions.{extensions_view, calls_of}
use Rattle.cedar_expectations.specs.Answers.{answer_view}
use Rattle.cedar_cli.specs.Batch.{asking}
use Rattle.cedar_cli.proofs.Composed.{of_ok}
use Rattle.cedar_regression.specs.Answered.{IsAnswerOver}
use Rattle.cedar_cli_tests.specs.Results.{IsAnsweredBy}
use Rattle.cedar_cli_tests.proofs.answers.answer_given.Goals as goal

pub returns-clause-answered : goal.returns-clause-answered
returns-clause-answered g c =
    let x = c.args.extensions.now in
    let e = c.args.tested in
    let s = c.args.store.now in
    let q = asking c.args.asked.now c.args.request in
    of_ok (λ a. IsAnswerOver (extensions_view x) (calls_of x) e.policies.now s e.way q (answer_view a))
    (λ a. IsAnsweredBy (extensions_view x) (calls_of x) e.policies.now e.way q (answer_view a))
    (λ a h. record { entities = s; store_is = c.requires; answer_is = h })
    c.answer_request.result c.answer_request.ensures.answered
