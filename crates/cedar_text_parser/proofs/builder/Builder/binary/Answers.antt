use Rattle.cedar_text_parser.proofs.Kept.{binary_kept}
use Rattle.cedar_text_parser.proofs.builder.Builder.binary.Goals as goal

pub returns-in_ok-put-in-Some-clause-ok : goal.returns-in_ok-put-in-Some-clause-ok
returns-in_ok-put-in-Some-clause-ok c =
    binary_kept c.args.binary c.in-Some.ensures c.in_ok-made-in-Some.ensures.ok c.in_ok-put-in-Some.ensures
