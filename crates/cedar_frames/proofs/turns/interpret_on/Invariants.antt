use Rattle.std.proofs.Common.{◌≡◌}
use Rattle.cedar_frames.specs.Frames.{State, work_left}
use Rattle.cedar_frames.proofs.turns.interpret_on.Given as goal

abbrev pub invariant-turns : goal.invariant-turns
invariant-turns g l = record {
  limit : l.stack.limit ≡ l.fn.stack.limit;
  right : State (g.M.Machine.right l.machine) (g.M.Machine.waits l.machine) l.fn.stack.limit l.fn.part l.stack.frames.items l.mode;
}

abbrev pub decreases-turns : goal.decreases-turns
decreases-turns g l = work_left g.M.Machine.left_of g.M.Machine.most l.stack.limit l.stack.frames.items l.mode
