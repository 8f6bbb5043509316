use Rattle.std.proofs.Common.{ap, sym, ◌∙◌}
use Rattle.cedar_text_printer.specs.Scopes.{is_true}
use Rattle.cedar_text_printer.proofs.ScopeKinds.{no_literal}
use Rattle.cedar_text_printer.proofs.scopes.is_true.Goals as goal

pub returns-in-Some : goal.returns-in-Some
returns-in-Some c = c.is_true_literal.ensures ∙ sym (ap is_true c.in-Some.ensures)

pub returns-in-None : goal.returns-in-None
returns-in-None c = sym (no_literal _ c.in-None.ensures)
