use Rattle.cedar_heights.proofs.Answered.{alone_low, beside_low}
use Rattle.cedar_heights.proofs.laws.standard_answers_are_low.Goals as goal

pub returns-clause-alone : goal.returns-clause-alone
returns-clause-alone g c = alone_low c.args.extensions.now

pub returns-clause-beside : goal.returns-clause-beside
returns-clause-beside g c = beside_low c.args.extensions.now
