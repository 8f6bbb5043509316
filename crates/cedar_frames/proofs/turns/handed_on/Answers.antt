use Rattle.std.proofs.Common.{◌++◌, ◌∷◌, [], refl, ◌∙◌}
use Rattle.cedar_frames.proofs.States.{resume_done, resume_wait}
use Rattle.cedar_frames.proofs.Works.{pop_falls, resume_falls}
use Rattle.cedar_frames.proofs.turns.handed_on.Goals as goal

pub returns-in-Done-clause-right : goal.returns-in-Done-clause-right
returns-in-Done-clause-right g c e s =
    let R = g.M.Machine.right c.args.machine.now in
    let W = g.M.Machine.waits c.args.machine.now in
    let fs = c.args.stack.now.frames.items in
    let limit = c.args.stack.now.limit in
    let left = c.pop.new.self.frames.items in
    c.continue_with_answer.ensures.right limit e left
    (resume_done R W limit e fs left c.in-Some.frame c.args.answer c.in-Done.answer c.levels_left-levels.result (c.levels_left-levels.ensures ∙ c.pop.ensures.limit) c.in-Some.ensures.top s
    c.in-Done.ensures.right)

pub returns-in-Wait-clause-right : goal.returns-in-Wait-clause-right
returns-in-Wait-clause-right g c e s =
    let R = g.M.Machine.right c.args.machine.now in
    let W = g.M.Machine.waits c.args.machine.now in
    let fs = c.args.stack.now.frames.items in
    let limit = c.args.stack.now.limit in
    let left = c.pop.new.self.frames.items in
    let pushed = left ++ c.in-Wait.frame ∷ [] in
    rw (← c.pop.ensures.limit) (c.waiting.ensures.right e (rw c.pop.ensures.limit
    (resume_wait R W limit e fs left pushed c.in-Some.frame c.in-Wait.frame c.args.answer c.in-Wait.next
    c.levels_left-levels.result (c.levels_left-levels.ensures ∙ c.pop.ensures.limit)
    c.in-Some.ensures.top s c.in-Wait.ensures.right refl)))

pub returns-in-Done-clause-less : goal.returns-in-Done-clause-less
returns-in-Done-clause-less g c =
    let l = g.M.Machine.left_of in
    let q = g.M.Machine.most in
    let left = c.pop.new.self.frames.items in
    let limit = c.args.stack.now.limit in
    rw c.in-Some.ensures.top (c.continue_with_answer.ensures.less _ limit left
    (pop_falls g.row.M-Part.Denot g.row.M-Answer.Denot l q limit left c.in-Some.frame c.args.answer c.in-Done.answer
    (g.met.M.Machine.some_left c.in-Some.frame)))

pub returns-in-Wait-clause-less : goal.returns-in-Wait-clause-less
returns-in-Wait-clause-less g c =
    let l = g.M.Machine.left_of in
    let q = g.M.Machine.most in
    let left = c.pop.new.self.frames.items in
    let limit = c.args.stack.now.limit in
    rw (c.in-Some.ensures.top, ← c.pop.ensures.limit) (c.waiting.ensures.less _ (rw c.pop.ensures.limit
    (resume_falls g.row.M-Part.Denot g.row.M-Answer.Denot l q limit left c.in-Some.frame c.in-Wait.frame c.in-Wait.next
    c.args.answer c.in-Some.ensures.room c.in-Wait.ensures.fewer)))
