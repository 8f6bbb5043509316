use Rattle.cedar_laws.proofs.HoldingNone.{holds_none}
use Rattle.cedar_laws.proofs.faithful.restricted_expressions_hold_no_extensions.Goals as goal

pub returns : goal.returns
returns g c = holds_none _
