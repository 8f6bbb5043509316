use Rattle.cedar_extensions.specs.Computations.{no_answers}
use Rattle.cedar_extensions.proofs.Agreeing.{none_agree, none_faithful}
use Rattle.cedar_extensions.proofs.laws.no_functions_agree.Goals as goal

pub returns-clause-agree : goal.returns-clause-agree
returns-clause-agree g c none = none_agree c.args.extensions.now none no_answers

pub returns-clause-faithful : goal.returns-clause-faithful
returns-clause-faithful g c none = none_faithful c.args.extensions.now none no_answers

pub returns-clause-any : goal.returns-clause-any
returns-clause-any g c = none_agree c.args.extensions.now
