use Rattle.cedar_authorizer.proofs.OneAnswer.{none_have_one_answer, built_in_have_one_answer}
use Rattle.cedar_authorizer.proofs.authorizer.laws.functions_have_one_answer.Goals as goal

pub returns-clause-none : goal.returns-clause-none
returns-clause-none g c = none_have_one_answer c.args.extensions.now

pub returns-clause-built_in : goal.returns-clause-built_in
returns-clause-built_in g c = built_in_have_one_answer c.args.extensions.now
