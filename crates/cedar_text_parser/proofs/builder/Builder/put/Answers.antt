use Rattle.std.proofs.Common.{ap}
use Rattle.cedar_expressions.specs.Nodes.{kind_node}
use Rattle.cedar_text_parser.specs.Building.{puts}
use Rattle.cedar_text_parser.proofs.builder.Builder.put.Goals as goal

pub returns : goal.returns
returns c =
    rw c.in_ok-push.ensures
    (puts (ap kind_node c.with_maybe_source_loc-expr.ensures.kind) c.with_maybe_source_loc-expr.ensures.loc)
