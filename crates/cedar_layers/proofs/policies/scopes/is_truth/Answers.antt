use Rattle.std.proofs.Common.{sym, ap, ◌∙◌}
use Rattle.cedar_layers.specs.Scopes.{is_truth}
use Rattle.cedar_layers.proofs.Asking.{no_truth}
use Rattle.cedar_layers.proofs.policies.scopes.is_truth.Goals as goal

pub returns-in-Some : goal.returns-in-Some
returns-in-Some c = c.is_true.ensures ∙ sym (ap is_truth c.in-Some.ensures)

pub returns-in-None : goal.returns-in-None
returns-in-None c = sym (no_truth _ c.in-None.ensures)
