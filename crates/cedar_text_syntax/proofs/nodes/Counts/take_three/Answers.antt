use Rattle.cedar_text_syntax.proofs.Counting.{three_taken}
use Rattle.cedar_text_syntax.proofs.nodes.Counts.take_three.Goals as goal

pub returns : goal.returns
returns c =
    three_taken c.add.result c.in_ok-otherwise.ensures c.in_ok-then.ensures c.in_ok-test.ensures c.add.ensures
