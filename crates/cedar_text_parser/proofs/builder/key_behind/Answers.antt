use Rattle.cedar_text_parser.proofs.Again.{again_there}
use Rattle.cedar_text_parser.proofs.builder.key_behind.Goals as goal

pub returns-in-Some-clause-ok : goal.returns-in-Some-clause-ok
returns-in-Some-clause-ok c =
    again_there 0 c.args.first c.in-Some.second c.requires.first (rw c.in-Some.is at c.in_ok-found.ensures.ok)
