use Rattle.cedar_text_parser.proofs.Again.{named_there}
use Rattle.cedar_text_parser.proofs.builder.named_from.Goals as goal

pub returns-then-is_same-clause-ok : goal.returns-then-is_same-clause-ok
returns-then-is_same-clause-ok c =
    named_there c.args.from c.loop-n.n c.loop-n.auto.n c.loop-n-test.true c.in_ok-named.ensures.ok
    (c.is_same.ensures c.if-is_same.true)
