use Rattle.std.proofs.Common.{ap, ◌∙◌, ◌++◌, codes, string_bytes}
use Rattle.std.specs.Prelude.{IfOk}
use Rattle.cedar_cli.proofs.Staged.{last_word}
use Rattle.cedar_cli.proofs.partial.print_response.Goals as goal

pub returns : goal.returns
returns c =
    last_word c.args.above.now c.args.response.now _ c.decision.ensures.given _ c.print_decision-printed.result
    c.print_decision-printed.ensures.status c.print_decision-printed.ensures.output
