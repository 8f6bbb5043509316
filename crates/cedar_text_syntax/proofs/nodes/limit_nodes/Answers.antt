use Rattle.std.proofs.Common.{◌∙◌}
use Rattle.cedar_text_syntax.proofs.Counting.{step_counted}
use Rattle.cedar_text_syntax.proofs.nodes.limit_nodes.Goals as goal

pub loop-step-preserved : goal.loop-step-preserved
loop-step-preserved c =
    record {
      counts =
          step_counted _ _ _ c.loop-step-test.true c.loop-step.invariant.counts
          (c.in_ok-put-in-Some.ensures.ok ∙ c.in-Some.ensures);
      low = rw c.in_ok-put-in-Some.ensures.ok c.if-count-most.true;
    }
