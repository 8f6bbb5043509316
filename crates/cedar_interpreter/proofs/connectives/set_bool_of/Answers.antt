use Rattle.std.proofs.Common.{ap, sym, ◌∙◌, Some}
use Rattle.cedar_values.specs.Residuals.{partial_view}
use Rattle.cedar_interpreter.proofs.BooleanLaws.{part_is_bool}
use Rattle.cedar_interpreter.proofs.connectives.set_bool_of.Goals as goal

pub returns-else-is_decided_by-clause-answer : goal.returns-else-is_decided_by-clause-answer
returns-else-is_decided_by-clause-answer c =
    part_is_bool (partial_view c.args.left.value) c.args.b
    (c.requires ∙ ap Some (sym (c.is_decided_by.ensures.undecided c.if-is_decided_by.false)))
