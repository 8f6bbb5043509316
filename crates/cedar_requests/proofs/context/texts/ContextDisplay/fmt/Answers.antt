use Rattle.std.proofs.Common.{sym}
use Rattle.cedar_requests.proofs.Texts.{record_of-pairs}
use Rattle.cedar_requests.proofs.context.texts.ContextDisplay.fmt.Goals as goal

pub returns-clause-writes : goal.returns-clause-writes
returns-clause-writes g c = rw (sym c.self.view_is) (rw (record_of-pairs c.self.inside.pairs) c.show.ensures)
