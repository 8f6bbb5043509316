-- The clauses mean what they mean without what is known in them.
use Rattle.std.proofs.Common.{◌∙◌, sym}
use Rattle.cedar_expressions.specs.View.{view}
use Rattle.cedar_unsatisfiable.proofs.Failing.{never_truth}
use Rattle.cedar_unsatisfiable.proofs.erring.is_never_truth.Goals as goal

pub returns-clause-never : goal.returns-clause-never
returns-clause-never c = λ is.
    never_truth (view c.in_ok-simple.simple) (view c.args.clauses.now) c.in_ok-simple.ensures.meaning
    (sym c.shows_no_truth-told.ensures ∙ is)
