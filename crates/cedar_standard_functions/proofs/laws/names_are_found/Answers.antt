use Rattle.cedar_standard_functions.specs.StandardLaws.{are_found, have_their_names}
use Rattle.cedar_standard_functions.proofs.laws.names_are_found.Goals as goal

pub returns-clause-found : goal.returns-clause-found
returns-clause-found c = are_found

pub returns-clause-named : goal.returns-clause-named
returns-clause-named c = have_their_names
