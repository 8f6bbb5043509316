use Rattle.std.proofs.Common.{ap, ◌∙◌}
use Rattle.cedar_expressions.proofs.NodeLevels.{kind_node-And}
use Rattle.cedar_expressions.specs.Nodes.{And, kind_node}
use Rattle.cedar_layers.proofs.policies.policy.Policy.conjunction.Goals as goal

pub returns-clause-whole : goal.returns-clause-whole
returns-clause-whole c = record {
  node = ap kind_node (c.with_maybe_source_loc.ensures.kind ∙ c.and_shared.ensures.kind) ∙ kind_node-And c.args.left c.in_ok-clone.field-0 ∙ ap (And c.args.left.value) c.in_ok-clone.ensures.cases;
  loc = c.with_maybe_source_loc.ensures.loc;
}
