-- One and then the other.
use Rattle.cedar_explain.proofs.Listed.{ok_then}
use Rattle.cedar_explain.proofs.lacks.add_part.Goals as goal

pub returns : goal.returns
returns g c = ok_then c.add_if-2.result _ _ _ c.in_ok-add_if.ensures c.add_if-2.ensures
