use Rattle.cedar_extensions.proofs.Agreeing.{built_in_agree, built_in_faithful}
use Rattle.cedar_extensions.proofs.laws.built_in_functions_agree.Goals as goal

pub returns-clause-agree : goal.returns-clause-agree
returns-clause-agree g c = built_in_agree c.args.extensions.now

pub returns-clause-faithful : goal.returns-clause-faithful
returns-clause-faithful g c = built_in_faithful c.args.extensions.now
