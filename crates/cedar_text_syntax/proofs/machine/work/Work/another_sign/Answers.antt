use Rattle.std.proofs.Common.{arith, ◌≤◌}
use Rattle.cedar_text_syntax.proofs.Turns.{another_sign_read}
use Rattle.cedar_text_syntax.proofs.machine.work.Work.another_sign.Goals as goal

pub returns-clause-ok : goal.returns-clause-ok
returns-clause-ok c =
    let few : c.args.count ≤ 3 = omega (arith, c.if-count-gt3.false) in
    another_sign_read c.requires.waits few c.requires.is c.in_ok-wait.ensures.frames c.wait.ensures.trees
