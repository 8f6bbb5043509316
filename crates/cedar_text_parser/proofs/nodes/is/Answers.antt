use Rattle.cedar_text_parser.specs.Building.{type_node}
use Rattle.cedar_text_parser.proofs.nodes.is.Goals as goal

pub returns-clause-ok : goal.returns-clause-ok
returns-clause-ok c = rw c.in_ok-is_entity_type.ensures.kind (type_node c.in_ok-ty.ensures.ok)
