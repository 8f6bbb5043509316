use Rattle.cedar_datetime.proofs.InOrder.{read_back, bytes_back}
use Rattle.cedar_datetime.proofs.laws.keys_are_read_back.Goals as goal

pub returns-clause-value : goal.returns-clause-value
returns-clause-value c = read_back

pub returns-clause-key : goal.returns-clause-key
returns-clause-key c = bytes_back
