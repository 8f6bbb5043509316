use Rattle.cedar_extensions.specs.Extensions.{extensions_view, calls_of}
use Rattle.cedar_expectations.specs.Answers.{answer_view}
use Rattle.cedar_cli.specs.Batch.{asking}
use Rattle.cedar_cli.specs.Reasons.{IsRequestUnread, IsAskedUnread, for_request}
use Rattle.cedar_cli.proofs.Composed.{of_ok, of_err}
use Rattle.cedar_cli.proofs.Reasoned.{because}
use Rattle.cedar_regression.specs.Answered.{IsAnswerOver}
use Rattle.cedar_cli_tests.specs.Results.{IsAnsweredBy}
use Rattle.cedar_cli_tests.proofs.answers.answer_own.Goals as goal

pub returns-clause-answered : goal.returns-clause-answered
returns-clause-answered g c =
    let x = c.args.extensions.now in
    let e = c.args.tested in
    let s = c.in_ok-store.store.entities in
    let q = asking c.args.asked.now c.args.request in
    of_ok (λ a. IsAnswerOver (extensions_view x) (calls_of x) e.policies.now s e.way q (answer_view a))
    (λ a. IsAnsweredBy (extensions_view x) (calls_of x) e.policies.now e.way q (answer_view a))
    (λ a h. record { entities = s; store_is = c.in_ok-store.ensures.given; answer_is = h })
    c.answer_request-answer.result c.answer_request-answer.ensures.answered

pub returns-clause-refused : goal.returns-clause-refused
returns-clause-refused g c =
    let x = c.args.extensions.now in
    let q = asking c.args.asked.now c.args.request in
    of_err _ _
    (λ r. because (IsRequestUnread (extensions_view x) (calls_of x) q) (IsAskedUnread (extensions_view x) (calls_of x) q)
    (λ h. for_request h) r)
    c.answer_request-answer.result c.answer_request-answer.ensures.refused
