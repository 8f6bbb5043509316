use Rattle.std.proofs.Common.{refl}
use Rattle.cedar_text_syntax.proofs.Nested.{finished_read}
use Rattle.cedar_text_syntax.proofs.machine.work.Work.finish.Goals as goal

pub returns-in-Finished-clause-ok : goal.returns-in-Finished-clause-ok
returns-in-Finished-clause-ok c = finished_read (rw c.in-Finished.is at c.requires) refl c.args.self.low
