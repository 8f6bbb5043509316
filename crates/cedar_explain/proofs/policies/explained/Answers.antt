-- What the walk came to, and the parts that it put behind none.
use Rattle.cedar_expressions.specs.View.{view}
use Rattle.cedar_explain.specs.Views.{part_came, parts_told}
use Rattle.cedar_explain.proofs.Whole.{behind_none}
use Rattle.cedar_explain.proofs.policies.explained.Goals as goal

pub returns : goal.returns
returns g c = record {
  came = part_came c.in_ok-outcome.outcome;
  walked =
      behind_none _ (view c.args.condition.now) c.new-parts.result.items (parts_told c.walk.new.parts.items) (part_came c.in_ok-outcome.outcome)
      c.new-parts.ensures.items c.in_ok-outcome.ensures;
  so = c.of_policy.ensures;
}
