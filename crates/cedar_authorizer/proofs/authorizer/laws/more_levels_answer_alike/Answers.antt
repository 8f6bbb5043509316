use Rattle.cedar_authorizer.proofs.Twice.{answers_stay, answers_with_more}
use Rattle.cedar_authorizer.proofs.authorizer.laws.more_levels_answer_alike.Goals as goal

pub returns-clause-stays : goal.returns-clause-stays
returns-clause-stays g c = answers_stay c.args.authorizer.now c.args.response.now

pub returns-clause-alike : goal.returns-clause-alike
returns-clause-alike g c = λ differ. answers_with_more c.args.authorizer.now c.args.more.now differ c.args.response.now c.args.other.now
