use Rattle.cedar_laws.proofs.Faithfulness.{functions_faithful, no_function_owes}
use Rattle.cedar_extensions.specs.Extensions.{calls_of}
use Rattle.cedar_extensions.specs.StoredLaws.{calls_sound}
use Rattle.cedar_faithful.proofs.Functions.{none_answers, built_in_holds}
use Rattle.cedar_faithful.proofs.given.functions_are_faithful.Goals as goal

pub returns-clause-faithful : goal.returns-clause-faithful
returns-clause-faithful g c = λ none X ans.
    functions_faithful (calls_of c.args.extensions.now) (calls_sound c.args.extensions.now) none X ans

pub returns-clause-none : goal.returns-clause-none
returns-clause-none g c = none_answers c.args.extensions.now

pub returns-clause-holds_none : goal.returns-clause-holds_none
returns-clause-holds_none g c = λ none.
    (no_function_owes (calls_of c.args.extensions.now) (none_answers c.args.extensions.now none)).0

pub returns-clause-built_in : goal.returns-clause-built_in
returns-clause-built_in g c = built_in_holds c.args.extensions.now
