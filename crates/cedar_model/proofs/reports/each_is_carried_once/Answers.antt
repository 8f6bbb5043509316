use Rattle.cedar_model.proofs.Chained.{sorted_is}
use Rattle.cedar_model.proofs.reports.each_is_carried_once.Goals as goal

pub returns : goal.returns
returns c = sorted_is
