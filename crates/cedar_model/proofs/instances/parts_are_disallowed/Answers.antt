use Rattle.cedar_model.proofs.Instanced.{variable_disallowed, first_key_disallowed}
use Rattle.cedar_model.proofs.instances.parts_are_disallowed.Goals as goal

pub returns-clause-variable : goal.returns-clause-variable
returns-clause-variable g = variable_disallowed

pub returns-clause-first_key : goal.returns-clause-first_key
returns-clause-first_key g = first_key_disallowed
