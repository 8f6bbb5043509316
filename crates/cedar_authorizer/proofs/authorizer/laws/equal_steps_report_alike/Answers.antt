use Rattle.cedar_authorizer.specs.Steps.{response_said}
use Rattle.cedar_authorizer.proofs.Twice.{steps_once, steps_equally}
use Rattle.cedar_authorizer.proofs.authorizer.laws.equal_steps_report_alike.Goals as goal

pub returns-clause-alike : goal.returns-clause-alike
returns-clause-alike g c =
    steps_once c.args.authorizer.now (response_said c.args.before.now) c.args.response.now c.args.other.now

pub returns-clause-equal : goal.returns-clause-equal
returns-clause-equal g c =
    steps_equally c.args.authorizer.now (response_said c.args.before.now) c.args.response.now c.args.other.now
