use Rattle.std.proofs.Common.{string_bytes}
use Rattle.cedar_layers.specs.PolicySets.{policies_view}
use Rattle.cedar_cli.proofs.Words.{word_printed}
use Rattle.cedar_cli.proofs.decisions.response_as_text.Goals as goal

pub returns : goal.returns
returns c =
    word_printed c.args.deciding.way.is_verbose (policies_view c.args.deciding.policies.now) c.args.response.now
    c.as_str.result.now (string_bytes c.in_ok-lines.lines) c.as_str.ensures.value c.in_ok-lines.ensures
    c.print_decision-printed.result c.print_decision-printed.ensures.status c.print_decision-printed.ensures.output
