use Rattle.cedar_authorizer.proofs.Further.{begins, goes_on, ends}
use Rattle.cedar_authorizer.proofs.authorizer.laws.steps_make_a_chain.Goals as goal

pub returns-clause-begins : goal.returns-clause-begins
returns-clause-begins g c = begins c.args.authorizer.now c.args.response.now

pub returns-clause-goes_on : goal.returns-clause-goes_on
returns-clause-goes_on g c = goes_on c.args.authorizer.now c.args.next.now c.args.response.now

pub returns-clause-ends : goal.returns-clause-ends
returns-clause-ends g c = ends c.args.authorizer.now c.args.response.now
