use Rattle.std.proofs.Common.{ap, ◌∙◌}
use Rattle.cedar_cli.specs.Steps.{values_in, with_values}
use Rattle.cedar_cli.proofs.steps.values_beside.Goals as goal

pub returns-in-Ok-clause-values : goal.returns-in-Ok-clause-values
returns-in-Ok-clause-values c = c.in-Ok.ensures.put ∙ ap (with_values (values_in c.args.input.now.values)) c.in_ok-values.ensures.values
