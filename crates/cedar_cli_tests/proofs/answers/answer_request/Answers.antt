use Rattle.std.proofs.Common.{subst, IfOk, IfErr}
use Rattle.cedar_extensions.specs.Extensions.{extensions_view, calls_of}
use Rattle.cedar_expectations.specs.Answers.{answer_view}
use Rattle.cedar_cli.specs.declared.asked.Asked.{Asked}
use Rattle.cedar_cli.specs.Reasons.{IsToldFor, IsRequestUnread}
use Rattle.cedar_regression.specs.Answered.{IsAnswerOver}
use Rattle.cedar_cli_tests.proofs.answers.answer_request.Goals as goal

pub returns-clause-answered : goal.returns-clause-answered
returns-clause-answered g c =
    let x = c.args.extensions.now in
    let e = c.args.tested in
    subst (λ (q : Asked). IfOk c.answer_of.result (λ a. IsAnswerOver (extensions_view x) (calls_of x) e.policies.now
    c.args.store.now e.way q (answer_view a))) c.with_request-asked.ensures c.answer_of.ensures.answered

pub returns-clause-refused : goal.returns-clause-refused
returns-clause-refused g c =
    let x = c.args.extensions.now in
    subst (λ (q : Asked). IfErr c.answer_of.result (IsToldFor (IsRequestUnread (extensions_view x) (calls_of x) q)))
    c.with_request-asked.ensures c.answer_of.ensures.refused
