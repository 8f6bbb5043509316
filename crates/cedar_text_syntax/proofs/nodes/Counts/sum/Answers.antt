use Rattle.std.proofs.Common.{◌≡◌, ◌+◌, ◌∙◌, sym, arith}
use Rattle.cedar_text_syntax.specs.Nodes.{sum_of}
use Rattle.cedar_text_syntax.proofs.Counting.{sum_more, rest_more}
use Rattle.cedar_text_syntax.proofs.nodes.Counts.sum.Goals as goal

pub loop-done-preserved : goal.loop-done-preserved
loop-done-preserved c =
    let left = sym c.loop-done.invariant.rest ∙ c.in_ok-pop.ensures in
    let more = sum_more c.loop-done._done c.args.self.now c.pop.new.self _ left in
    let same : c.in_ok-sum.sum ≡ sum_of c.loop-done._done c.args.self.now + c.in_ok-pop.field-0 = grind (arith, c.in_ok-sum.ensures, c.loop-done.invariant.sum) in
    record {
      sum = same ∙ sym more;
      rest = sym (rest_more c.loop-done._done c.args.self.now c.pop.new.self _ left);
    }
