use Rattle.cedar_frames.proofs.States.{first}
use Rattle.cedar_frames.proofs.turns.interpret_on.Goals as goal

pub turns-init : goal.turns-init
turns-init g c = record {
  limit = cc;
  right = first (g.M.Machine.right c.args.machine.now) (g.M.Machine.waits c.args.machine.now) c.args.stack.now.limit c.args.part c.clear.new.self.frames.items c.clear.ensures.empty;
}

pub turns-preserved : goal.turns-preserved
turns-preserved g c = record {
  limit = cc;
  right = rw (← c.turns.invariant.limit) (c.in-Go.ensures.right c.args.part (rw c.turns.invariant.limit c.turns.invariant.right));
}
