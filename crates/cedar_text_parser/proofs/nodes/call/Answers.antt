use Rattle.cedar_text_parser.specs.Building.{call_node}
use Rattle.cedar_text_parser.proofs.nodes.call.Goals as goal

pub returns-clause-ok : goal.returns-clause-ok
returns-clause-ok c = rw c.in_ok-call_extension_fn.ensures.kind (call_node c.in_ok-name.ensures.ok)
