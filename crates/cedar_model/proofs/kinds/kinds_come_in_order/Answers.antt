use Rattle.cedar_model.proofs.KindsInOrder.{in_order, sets_in_order, records_in_order}
use Rattle.cedar_model.proofs.kinds.kinds_come_in_order.Goals as goal

pub returns-clause-kinds : goal.returns-clause-kinds
returns-clause-kinds g = in_order

pub returns-clause-sets : goal.returns-clause-sets
returns-clause-sets g = sets_in_order

pub returns-clause-records : goal.returns-clause-records
returns-clause-records g = records_in_order
