-- It is put behind the others.
use Rattle.cedar_explain.specs.Lacking.{IsLack}
use Rattle.cedar_explain.proofs.Listed.{ok_pushed}
use Rattle.cedar_explain.proofs.lacks.add_if.Goals as goal

pub returns-then-applies : goal.returns-then-applies
returns-then-applies g c =
    ok_pushed c.add_last.result (IsLack c.args.evaluator.now) c.args.lacks.now.items c.add_last.new.items.items c.args.lack c.add_last.ensures.ok
    (record { of_permit = c.requires.permit; applies = c.in_ok-applies.ensures c.if-applies.true })
