use Rattle.cedar_text_parser.specs.Building.{operation}
use Rattle.cedar_text_parser.proofs.nodes.operation.Goals as goal

pub returns-in_ok-binary_app-in-Some-clause-ok : goal.returns-in_ok-binary_app-in-Some-clause-ok
returns-in_ok-binary_app-in-Some-clause-ok c =
    rw (c.in-Some.ensures, c.in_ok-binary_app-in-Some.ensures.kind) operation
