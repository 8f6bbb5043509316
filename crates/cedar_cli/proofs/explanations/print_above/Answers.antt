-- The word, the reasons, and what is below them.
use Rattle.std.proofs.Common.{◌∙◌, string_bytes}
use Rattle.cedar_layers.specs.PolicySets.{policies_view}
use Rattle.cedar_cli.proofs.Explaining.{word_above}
use Rattle.cedar_cli.proofs.explanations.print_above.Goals as goal

pub returns : goal.returns
returns c =
    word_above c.args.deciding.way.is_verbose (policies_view c.args.deciding.policies.now) c.args.response.now
    c.args.below.now c.as_str.result.now (string_bytes c.in_ok-lines.lines) (c.as_str.ensures.value ∙ c.in_ok-push_str.ensures.bytes)
    c.in_ok-lines.ensures c.print_decision-printed.result c.print_decision-printed.ensures.status
    c.print_decision-printed.ensures.output
