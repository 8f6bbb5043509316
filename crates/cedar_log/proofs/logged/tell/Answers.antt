use Rattle.std.proofs.Common.{refl}
use Rattle.cedar_log.specs.Logs.{no_memory}
use Rattle.cedar_log.proofs.logged.tell.Goals as goal

pub returns-in-Err : goal.returns-in-Err
returns-in-Err g c = no_memory c.requires refl c.withhold.ensures
