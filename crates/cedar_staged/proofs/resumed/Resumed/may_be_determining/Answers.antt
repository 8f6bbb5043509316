use Rattle.cedar_staged.proofs.ReadOn.{keeps_what_stood}
use Rattle.cedar_staged.proofs.resumed.Resumed.may_be_determining.Goals as goal

pub returns-clause-stands : goal.returns-clause-stands
returns-clause-stands g c = keeps_what_stood c.args.self.now
