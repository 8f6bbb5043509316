use Rattle.cedar_service.proofs.Started.{cyclic}
use Rattle.cedar_service.proofs.engine.close.Goals as goal

pub returns-in-Err-clause-cycle : goal.returns-in-Err-clause-cycle
returns-in-Err-clause-cycle c =
    cyclic c.args.entities.items c.in-Err.error c.unclosed.result c.in-Err.ensures.cycle c.unclosed.ensures
