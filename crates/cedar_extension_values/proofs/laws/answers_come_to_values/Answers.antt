-- An answer with an outcome is not out of memory.
use Rattle.cedar_extension_values.proofs.Computed.{answers_come}
use Rattle.cedar_extension_values.proofs.laws.answers_come_to_values.Goals as goal

pub returns : goal.returns
returns c = answers_come
