use Rattle.cedar_standard_functions.specs.StandardLaws.{are_lawful}
use Rattle.cedar_standard_functions.proofs.laws.functions_are_lawful.Goals as goal

pub returns : goal.returns
returns c = are_lawful
