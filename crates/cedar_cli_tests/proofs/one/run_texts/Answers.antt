use Rattle.cedar_extensions.specs.Extensions.{extensions_view, calls_of}
use Rattle.cedar_expectations.specs.Answers.{answer_view}
use Rattle.cedar_policy_tests.specs.Views.{test_view}
use Rattle.cedar_cli_tests.specs.Tested.{IsUnread}
use Rattle.cedar_cli_tests.specs.Results.{IsAnsweredBy}
use Rattle.cedar_cli_tests.proofs.Judging.{sources_of, judged_so, refused_so}
use Rattle.cedar_cli_tests.proofs.one.run_texts.Goals as goal

pub returns-in-Ok : goal.returns-in-Ok
returns-in-Ok g c =
    let x = c.args.extensions.now in
    let e = c.args.tested in
    let t = test_view c.args.test in
    let request = c.source_of-request.result in
    let entities = c.source_if-entities.result in
    judged_so (IsAnsweredBy (extensions_view x) (calls_of x) e.policies.now e.way) (IsUnread (extensions_view x) (calls_of x))
    c.args.asked.now t request entities
    (sources_of t c.args.texts.now request entities c.requires.texts c.source_of-request.ensures c.source_if-entities.ensures)
    c.args.number (answer_view c.in-Ok.found) c.judge.result c.in-Ok.ensures.answered c.judge.ensures

pub returns-in-Err : goal.returns-in-Err
returns-in-Err g c =
    let x = c.args.extensions.now in
    let e = c.args.tested in
    let t = test_view c.args.test in
    let request = c.source_of-request.result in
    let entities = c.source_if-entities.result in
    refused_so (IsAnsweredBy (extensions_view x) (calls_of x) e.policies.now e.way) (IsUnread (extensions_view x) (calls_of x))
    c.args.asked.now t request entities
    (sources_of t c.args.texts.now request entities c.requires.texts c.source_of-request.ensures c.source_if-entities.ensures)
    c.args.number c.in-Err.refusal c.refuse.result c.in-Err.ensures.refused c.refuse.ensures.told c.refuse.ensures.verdict
