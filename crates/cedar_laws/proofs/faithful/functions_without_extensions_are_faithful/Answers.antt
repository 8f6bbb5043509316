use Rattle.cedar_laws.proofs.Faithfulness.{functions_faithful, answer_as_agreed, no_function_owes}
use Rattle.cedar_laws.proofs.faithful.functions_without_extensions_are_faithful.Goals as goal

pub returns-clause-faithful : goal.returns-clause-faithful
returns-clause-faithful g c = functions_faithful (g.F.AnyFunctions.calls c.args.functions.now)

pub returns-clause-none : goal.returns-clause-none
returns-clause-none g c = no_function_owes (g.F.AnyFunctions.calls c.args.functions.now)

pub returns-clause-agreed : goal.returns-clause-agreed
returns-clause-agreed g c = answer_as_agreed (g.F.AnyFunctions.calls c.args.functions.now)
