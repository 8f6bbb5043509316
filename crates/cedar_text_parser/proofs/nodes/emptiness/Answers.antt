use Rattle.cedar_text_parser.specs.Building.{emptiness}
use Rattle.cedar_text_parser.proofs.nodes.emptiness.Goals as goal

pub returns-in_ok-unary_app-in-Some-clause-ok : goal.returns-in_ok-unary_app-in-Some-clause-ok
returns-in_ok-unary_app-in-Some-clause-ok c =
    rw (c.in-Some.ensures, c.in_ok-unary_app-in-Some.ensures.kind) emptiness
