use Rattle.cedar_authorizer.proofs.Twice.{reports_stay, reports_with_more, only_limits_change}
use Rattle.cedar_authorizer.proofs.authorizer.laws.more_levels_report_alike.Goals as goal

pub returns-clause-stays : goal.returns-clause-stays
returns-clause-stays g c = reports_stay c.args.authorizer.now c.args.response.now

pub returns-clause-alike : goal.returns-clause-alike
returns-clause-alike g c = λ differ. reports_with_more c.args.authorizer.now c.args.more.now differ c.args.response.now c.args.other.now

pub returns-clause-limits : goal.returns-clause-limits
returns-clause-limits g c = λ differ. only_limits_change c.args.authorizer.now c.args.more.now differ c.args.response.now c.args.other.now
