use Rattle.cedar_authorizer.proofs.Twice.{answers_once, answers_equally}
use Rattle.cedar_authorizer.proofs.authorizer.laws.equal_calls_answer_alike.Goals as goal

pub returns-clause-alike : goal.returns-clause-alike
returns-clause-alike g c = answers_once c.args.authorizer.now c.args.response.now c.args.other.now

pub returns-clause-equal : goal.returns-clause-equal
returns-clause-equal g c = answers_equally c.args.authorizer.now c.args.response.now c.args.other.now
