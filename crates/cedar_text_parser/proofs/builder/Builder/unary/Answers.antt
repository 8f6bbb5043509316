use Rattle.cedar_text_parser.proofs.Kept.{unary_kept}
use Rattle.cedar_text_parser.proofs.builder.Builder.unary.Goals as goal

pub returns-in_ok-put-in-Some-clause-ok : goal.returns-in_ok-put-in-Some-clause-ok
returns-in_ok-put-in-Some-clause-ok c =
    unary_kept c.args.unary c.in-Some.ensures c.in_ok-made-in-Some.ensures.ok c.in_ok-put-in-Some.ensures
