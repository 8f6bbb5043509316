use Rattle.std.proofs.Common.{arith}
use Rattle.cedar_text_syntax.specs.Reading.{behind}
use Rattle.cedar_text_syntax.proofs.machine.work.Work.open_index.Goals as goal

pub returns-clause-ok : goal.returns-clause-ok
returns-clause-ok c = (behind c.requires.reads c.requires.is, omega (arith, c.if-self-gt-MEMBER.false))
