use Rattle.cedar_authorizer.proofs.Twice.{reports_once, reports_equally}
use Rattle.cedar_authorizer.proofs.authorizer.laws.equal_calls_report_alike.Goals as goal

pub returns-clause-alike : goal.returns-clause-alike
returns-clause-alike g c = reports_once c.args.authorizer.now c.args.response.now c.args.other.now

pub returns-clause-equal : goal.returns-clause-equal
returns-clause-equal g c = reports_equally c.args.authorizer.now c.args.response.now c.args.other.now
