use Rattle.cedar_evaluator.proofs.Direct.{slot_found}
use Rattle.cedar_evaluator.proofs.conditions.entity_in_slot.Goals as goal

pub returns : goal.returns
returns c = slot_found c.args.slots.now c.args.slot c.get.result c.get.ensures.value
