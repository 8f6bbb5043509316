use Rattle.std.proofs.Common.{arith}
use Rattle.cedar_places.proofs.Positions.{at_low, line_low, column_low, behind_is}
use Rattle.cedar_places.proofs.places.Places.position_of.Goals as goal

pub behind-position-requires-clause-at : goal.behind-position-requires-clause-at
behind-position-requires-clause-at c =
    at_low _ _ _ _ c.as_bytes-bytes.ensures.value c.loop-i.invariant (omega arith) c.as_bytes-bytes.type_inv.1

pub behind-position-requires-clause-line : goal.behind-position-requires-clause-line
behind-position-requires-clause-line c =
    line_low _ _ _ _ c.as_bytes-bytes.ensures.value c.loop-i.invariant (omega arith) c.as_bytes-bytes.type_inv.1

pub behind-position-requires-clause-column : goal.behind-position-requires-clause-column
behind-position-requires-clause-column c =
    column_low _ _ _ _ c.as_bytes-bytes.ensures.value c.loop-i.invariant (omega arith) c.as_bytes-bytes.type_inv.1

pub loop-i-preserved : goal.loop-i-preserved
loop-i-preserved c =
    behind_is _ _ _ _ _ c.as_bytes-bytes.ensures.value c.loop-i.invariant (omega arith) c.behind-position.ensures
