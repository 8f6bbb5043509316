use Rattle.cedar_text_syntax.proofs.Counting.{two_taken}
use Rattle.cedar_text_syntax.proofs.nodes.Counts.take_two.Goals as goal

pub returns : goal.returns
returns c = two_taken c.args.binary c.join.result c.in_ok-right.ensures c.in_ok-left.ensures c.join.ensures
