use Rattle.std.proofs.Common.{subst}
use Rattle.cedar_frames.specs.Frames.{State}
use Rattle.cedar_frames.proofs.turns.advance.Goals as goal

pub returns-in-Eval-clause-right : goal.returns-in-Eval-clause-right
returns-in-Eval-clause-right g c e s =
    let R = g.M.Machine.right c.args.machine.now in
    let W = g.M.Machine.waits c.args.machine.now in
    let fs = c.args.stack.now.frames.items in
    c.looked_at.ensures.right e (subst (State R W c.args.stack.now.limit e fs) c.in-Eval.is s)

pub returns-in-Answer-clause-right : goal.returns-in-Answer-clause-right
returns-in-Answer-clause-right g c e s =
    let R = g.M.Machine.right c.args.machine.now in
    let W = g.M.Machine.waits c.args.machine.now in
    let fs = c.args.stack.now.frames.items in
    c.handed_on.ensures.right e (subst (State R W c.args.stack.now.limit e fs) c.in-Answer.is s)
