use Rattle.cedar_text_syntax.proofs.Parts.{infix_two, is_in_two, else_three}
use Rattle.std.proofs.Common.{arith, ◌≤◌}
use Rattle.std.proofs.lemmas.Result.{IfOk-weaker}
use Rattle.cedar_text_syntax.specs.Levels.{lowest_of}
use Rattle.cedar_text_syntax.proofs.Turns.{join_read, signs_read, is_in_read, conditional_read}
use Rattle.cedar_text_syntax.proofs.machine.work.Work.reduce_frame.Goals as goal

pub returns-in-Infix-clause-reads : goal.returns-in-Infix-clause-reads
returns-in-Infix-clause-reads c =
    IfOk-weaker _ _ _ (λ _ e. join_read (rw c.in-Infix.is at c.requires.reads) e) c.join.ensures.look

pub returns-else-self-lowest-clause-reads : goal.returns-else-self-lowest-clause-reads
returns-else-self-lowest-clause-reads c =
    let low : lowest_of c.in-Signs.sign ≤ c.args.self.now.level =
    omega (arith, c.lowest.ensures, c.if-self-lowest.false) in
    IfOk-weaker _ _ _ (λ _ e. signs_read (rw c.in-Signs.is at c.requires.reads) low e) c.sign.ensures.look

pub returns-in-IsIn-clause-reads : goal.returns-in-IsIn-clause-reads
returns-in-IsIn-clause-reads c =
    IfOk-weaker _ _ _ (λ _ e. is_in_read (rw c.in-IsIn.is at c.requires.reads) c.max.ensures e) c.make.ensures.look

pub returns-in-Else-clause-reads : goal.returns-in-Else-clause-reads
returns-in-Else-clause-reads c =
    IfOk-weaker _ _ _ (λ _ e. conditional_read (rw c.in-Else.is at c.requires.reads) c.max-in-Else.ensures e)
    c.make-in-Else.ensures.look

pub join-requires : goal.join-requires
join-requires c = infix_two (rw c.in-Infix.is at c.requires.reads)

pub make-requires : goal.make-requires
make-requires c = is_in_two (rw c.in-IsIn.is at c.requires.reads)

pub make-requires-in-Else : goal.make-requires-in-Else
make-requires-in-Else c = else_three (rw c.in-Else.is at c.requires.reads)
