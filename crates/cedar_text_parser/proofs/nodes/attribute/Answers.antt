use Rattle.cedar_text_parser.specs.Building.{attribute_node}
use Rattle.cedar_text_parser.proofs.nodes.attribute.Goals as goal

pub returns-clause-ok : goal.returns-clause-ok
returns-clause-ok c = rw c.in_ok-get_attr.ensures.kind (attribute_node c.in_ok-key.ensures.ok)
