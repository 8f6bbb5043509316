use Rattle.std.proofs.Common.{ap, ◌∙◌}
use Rattle.cedar_cli_tests.specs.Tested.{verdict_of}
use Rattle.cedar_cli_tests.proofs.one.judge_found.Goals as goal

pub returns : goal.returns
returns c = c.in_ok-verdict.ensures ∙ ap verdict_of c.in_ok-told.ensures
