use Rattle.cedar_extensions.proofs.Agreeing.{computed_agree, by_name_agree}
use Rattle.cedar_extensions.proofs.laws.computed_functions_agree.Goals as goal

pub returns-clause-agree : goal.returns-clause-agree
returns-clause-agree g c = computed_agree c.args.extensions.now c.functions_are_computed.ensures.computed

pub returns-clause-by_name : goal.returns-clause-by_name
returns-clause-by_name g c = by_name_agree c.args.extensions.now c.functions_are_computed.ensures.computed
