use Rattle.cedar_text_parser.specs.Building.{like_node}
use Rattle.cedar_text_parser.proofs.nodes.like.Goals as goal

pub returns-clause-ok : goal.returns-clause-ok
returns-clause-ok c = rw c.in_ok-like.ensures.kind (like_node c.in_ok-pattern.ensures.ok)
