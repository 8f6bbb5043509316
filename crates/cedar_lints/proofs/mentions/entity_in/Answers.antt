use Rattle.std.proofs.Common.{ap, ◌∙◌}
use Rattle.std.specs.Option.{option_and_then}
use Rattle.cedar_expressions.specs.Nodes.{uid_of_literal}
use Rattle.cedar_lints.proofs.mentions.entity_in.Goals as goal

pub returns-in-Some : goal.returns-in-Some
returns-in-Some c = c.entity_of.ensures ∙ ap (option_and_then uid_of_literal) c.in-Some.ensures

pub returns-in-None : goal.returns-in-None
returns-in-None c = ap (option_and_then uid_of_literal) c.in-None.ensures
