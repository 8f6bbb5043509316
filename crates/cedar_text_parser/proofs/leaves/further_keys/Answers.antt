use Rattle.std.proofs.Common.{arith}
use Rattle.cedar_text_parser.proofs.Growing.{first_key, keys_more}
use Rattle.cedar_text_parser.proofs.leaves.further_keys.Goals as goal

pub loop-at-init : goal.loop-at-init
loop-at-init c = record {
  bound = omega (arith, c.requires.order);
  named = λ w h. rw c.new-rest.ensures.items
      (first_key w h);
}

pub loop-at-preserved : goal.loop-at-preserved
loop-at-preserved c = record {
  bound = omega (arith, c.loop-at-test.true);
  named = λ w h. rw c.in_ok-push.ensures.items (keys_more c.in_ok-next.next
      (c.loop-at.invariant.named w h) c.in_ok-next.ensures.ok);
}
