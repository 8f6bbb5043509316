-- The condition means what it means without what is known in it.
use Rattle.std.proofs.Common.{◌∙◌, sym}
use Rattle.cedar_expressions.specs.View.{view}
use Rattle.cedar_unsatisfiable.proofs.Never.{never_satisfied}
use Rattle.cedar_unsatisfiable.proofs.policies.is_never_satisfied.Goals as goal

pub returns-clause-never : goal.returns-clause-never
returns-clause-never c = λ is.
    never_satisfied (view c.in_ok-simple.simple) (view c.args.condition.now) c.in_ok-simple.ensures.meaning
    (sym c.shows_never-told.ensures.shown ∙ is)
