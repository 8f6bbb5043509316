use Rattle.std.proofs.Common.{◌∙◌, sym, refl}
use Rattle.cedar_log.specs.Logs.{nothing_told}
use Rattle.cedar_log.proofs.logged.hand_out.Goals as goal

pub returns-else-hands_out : goal.returns-else-hands_out
returns-else-hands_out g c = nothing_told (sym c.hands_out.ensures ∙ c.if-hands_out.false) refl refl
