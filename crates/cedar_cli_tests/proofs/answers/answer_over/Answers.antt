use Rattle.std.proofs.Common.{subst, IfOk, IfErr}
use Rattle.cedar_extensions.specs.Extensions.{extensions_view, calls_of}
use Rattle.cedar_expectations.specs.Answers.{answer_view}
use Rattle.cedar_cli.specs.declared.asked.Asked.{Asked}
use Rattle.cedar_cli.specs.Batch.{asking}
use Rattle.cedar_cli.specs.Reasons.{IsToldFor, IsAskedUnread}
use Rattle.cedar_cli_tests.specs.Results.{IsAnsweredBy}
use Rattle.cedar_cli_tests.proofs.answers.answer_over.Goals as goal

pub returns-clause-answered : goal.returns-clause-answered
returns-clause-answered g c =
    let x = c.args.extensions.now in
    let e = c.args.tested in
    subst (λ (q : Asked). IfOk c.answer_own.result (λ a. IsAnsweredBy (extensions_view x) (calls_of x) e.policies.now
    e.way (asking q c.args.request) (answer_view a))) c.with_entities-asked.ensures c.answer_own.ensures.answered

pub returns-clause-refused : goal.returns-clause-refused
returns-clause-refused g c =
    let x = c.args.extensions.now in
    subst (λ (q : Asked). IfErr c.answer_own.result (IsToldFor (IsAskedUnread (extensions_view x) (calls_of x)
    (asking q c.args.request)))) c.with_entities-asked.ensures c.answer_own.ensures.refused
