use Rattle.cedar_text_parser.proofs.Kept.{conditional_kept}
use Rattle.cedar_text_parser.proofs.builder.Builder.conditional.Goals as goal

pub returns-in_ok-put-in-Some-clause-ok : goal.returns-in_ok-put-in-Some-clause-ok
returns-in_ok-put-in-Some-clause-ok c =
    conditional_kept c.in-Some.ensures c.in_ok-made-in-Some.ensures.kind c.in_ok-put-in-Some.ensures
