use Rattle.std.proofs.Common.{Option, IfOk, sym, subst}
use Rattle.cedar_cli.specs.declared.asked.Source.{Source}
use Rattle.cedar_extensions.specs.Extensions.{extensions_view, calls_of}
use Rattle.cedar_expectations.specs.Answers.{answer_view}
use Rattle.cedar_cli_tests.specs.Tested.{question}
use Rattle.cedar_cli_tests.specs.Results.{IsAnsweredBy}
use Rattle.cedar_cli_tests.proofs.answers.answer_to.Goals as goal

pub returns-in-Some-clause-answered : goal.returns-in-Some-clause-answered
returns-in-Some-clause-answered g c =
    subst (λ (o : Option Source). IfOk c.answer_over.result (λ a. IsAnsweredBy (extensions_view c.args.extensions.now)
    (calls_of c.args.extensions.now) c.args.tested.policies.now c.args.tested.way
    (question c.args.asked.now c.args.request o) (answer_view a))) (sym c.in-Some.is) c.answer_over.ensures.answered

pub returns-in-None-clause-answered : goal.returns-in-None-clause-answered
returns-in-None-clause-answered g c =
    subst (λ (o : Option Source). IfOk c.answer_given.result (λ a. IsAnsweredBy (extensions_view c.args.extensions.now)
    (calls_of c.args.extensions.now) c.args.tested.policies.now c.args.tested.way
    (question c.args.asked.now c.args.request o) (answer_view a))) (sym c.in-None.is) c.answer_given.ensures.answered
