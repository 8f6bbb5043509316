-- What shows it is true in no world.
use Rattle.std.proofs.Common.{◌∙◌, sym}
use Rattle.cedar_expressions.specs.View.{view}
use Rattle.cedar_unsatisfiable.proofs.Never.{never_true}
use Rattle.cedar_unsatisfiable.proofs.showing.shows_never.Goals as goal

pub returns-clause-never : goal.returns-clause-never
returns-clause-never c = λ is. never_true (view c.args.expr.now) (sym c.is_shown.ensures ∙ is)
