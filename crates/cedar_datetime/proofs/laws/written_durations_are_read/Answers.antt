use Rattle.cedar_datetime.proofs.Reading.{read, epoch}
use Rattle.cedar_datetime.proofs.laws.written_durations_are_read.Goals as goal

pub returns-clause-read : goal.returns-clause-read
returns-clause-read c = read

pub returns-clause-epoch : goal.returns-clause-epoch
returns-clause-epoch c = epoch
