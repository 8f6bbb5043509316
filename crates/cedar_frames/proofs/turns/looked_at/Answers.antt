use Rattle.std.proofs.Common.{◌≡◌, ◌<◌, ◌++◌, ◌∷◌, [], length, refl, arith}
use Rattle.std.proofs.lemmas.Grind.{common_steps}
use Rattle.cedar_frames.proofs.States.{full, start_done, start_wait}
use Rattle.cedar_frames.proofs.Works.{push_falls, answer_falls}
use Rattle.cedar_frames.proofs.turns.looked_at.Goals as goal

pub returns-then-levels-eq0-clause-right : goal.returns-then-levels-eq0-clause-right
returns-then-levels-eq0-clause-right g c e s =
    let R = g.M.Machine.right c.args.machine.now in
    let W = g.M.Machine.waits c.args.machine.now in
    let fs = c.args.stack.now.frames.items in
    let limit = c.args.stack.now.limit in
    let met = g.met.M.Machine in
    let machine = c.args.machine.now in
    let full_now : length fs ≡ limit = grind (arith, common_steps) in
    rw c.limit.ensures
    (full R W limit e g.M.Machine.at_limit (met.right_limit machine)
    (λ k f t d. met.right_upward machine k f t d g.M.Machine.at_limit met.limit_ends) fs c.args.part full_now s)

pub returns-in-Done-clause-right : goal.returns-in-Done-clause-right
returns-in-Done-clause-right g c e s =
    let R = g.M.Machine.right c.args.machine.now in
    let W = g.M.Machine.waits c.args.machine.now in
    let fs = c.args.stack.now.frames.items in
    let limit = c.args.stack.now.limit in
    let levels = c.levels_left-levels.result in
    let some : 0 < levels = grind (arith, common_steps) in
    c.continue_with_answer.ensures.right limit e fs
    (start_done R W limit e fs c.args.part c.in-Done.answer levels c.levels_left-levels.ensures some s
    c.in-Done.ensures.right)

pub returns-in-Wait-clause-right : goal.returns-in-Wait-clause-right
returns-in-Wait-clause-right g c e s =
    let R = g.M.Machine.right c.args.machine.now in
    let W = g.M.Machine.waits c.args.machine.now in
    let fs = c.args.stack.now.frames.items in
    let limit = c.args.stack.now.limit in
    let levels = c.levels_left-levels.result in
    let some : 0 < levels = grind (arith, common_steps) in
    c.waiting.ensures.right e
    (start_wait R W limit e fs (fs ++ c.in-Wait.frame ∷ []) c.args.part c.in-Wait.next c.in-Wait.frame levels
    c.levels_left-levels.ensures some s c.in-Wait.ensures.right refl)

pub returns-in-Done-clause-less : goal.returns-in-Done-clause-less
returns-in-Done-clause-less g c =
    let l = g.M.Machine.left_of in
    let q = g.M.Machine.most in
    let fs = c.args.stack.now.frames.items in
    let limit = c.args.stack.now.limit in
    c.continue_with_answer.ensures.less _ limit fs
    (answer_falls g.row.M-Part.Denot g.row.M-Answer.Denot l q limit fs c.args.part c.in-Done.answer
    g.met.M.Machine.some_most)

pub returns-in-Wait-clause-less : goal.returns-in-Wait-clause-less
returns-in-Wait-clause-less g c =
    let l = g.M.Machine.left_of in
    let q = g.M.Machine.most in
    let fs = c.args.stack.now.frames.items in
    let limit = c.args.stack.now.limit in
    let room : length fs < limit = grind (arith, common_steps) in
    c.waiting.ensures.less _
    (push_falls g.row.M-Part.Denot g.row.M-Answer.Denot l q limit fs c.in-Wait.frame c.in-Wait.next q room
    c.in-Wait.ensures.below)
