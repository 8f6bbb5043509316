use Rattle.cedar_text_parser.specs.Building.{text_node}
use Rattle.cedar_text_parser.proofs.nodes.text_leaf.Goals as goal

pub returns-clause-ok : goal.returns-clause-ok
returns-clause-ok c = rw c.val.ensures.kind (text_node c.in_ok-value.ensures.ok)
