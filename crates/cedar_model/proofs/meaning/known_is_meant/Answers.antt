use Rattle.cedar_model.proofs.Known.{allowed_exact, need_below_height}
use Rattle.cedar_model.proofs.meaning.known_is_meant.Goals as goal

pub returns-clause-allowed : goal.returns-clause-allowed
returns-clause-allowed g i = λ ans w s c.
    allowed_exact ans _ c.all_known.functions_agree w s c.all_known.nothing_unknown c.request_agrees c.store_agrees

pub returns-clause-need : goal.returns-clause-need
returns-clause-need g i = λ ans w s c.
    need_below_height ans _ c.all_known.functions_agree w s c.all_known.nothing_unknown c.request_agrees c.store_agrees
