use Rattle.cedar_staged.proofs.Read.{has_headline}
use Rattle.cedar_staged.proofs.staged.Staged.response.Goals as goal

pub returns-clause-headline : goal.returns-clause-headline
returns-clause-headline g c = has_headline c.args.self.now
