-- The part is put behind the others.
use Rattle.cedar_expressions.specs.View.{view}
use Rattle.cedar_explain.proofs.Whole.{noted}
use Rattle.cedar_explain.proofs.walking.note.Goals as goal

pub returns : goal.returns
returns g c =
    noted _ (view c.args.expr.now) c.in_ok-part.part c.args.parts.now.items c.add_last.new.items.items _ c.in_ok-part.ensures.term
    c.in_ok-part.ensures.reached c.in_ok-add_last.ensures.ok c.outcome-outcome.ensures
