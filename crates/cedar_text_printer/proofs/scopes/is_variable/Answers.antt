use Rattle.std.proofs.Common.{ap, sym, ◌∙◌}
use Rattle.cedar_names.specs.Leaves.{variable_view}
use Rattle.cedar_text_printer.specs.Scopes.{is_variable}
use Rattle.cedar_text_printer.proofs.ScopeKinds.{no_variable}
use Rattle.cedar_text_printer.proofs.scopes.is_variable.Goals as goal

pub returns-in-Some : goal.returns-in-Some
returns-in-Some c = c.same_variable.ensures ∙ sym (ap (is_variable (variable_view c.args.var)) c.in-Some.ensures)

pub returns-in-None : goal.returns-in-None
returns-in-None c = sym (no_variable (variable_view c.args.var) _ c.in-None.ensures)
