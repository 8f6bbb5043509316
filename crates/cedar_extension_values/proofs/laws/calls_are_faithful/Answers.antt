-- A call on faithful arguments is known, and means what the function gives.
use Rattle.cedar_extension_values.proofs.Calling.{known_all, call_means}
use Rattle.cedar_extension_values.proofs.laws.calls_are_faithful.Goals as goal

pub returns : goal.returns
returns c = λ X ans f vs t k faithful arity never made. (
  (never, known_all X ans vs faithful),
  call_means X ans c.written_values_mean.ensures f vs t k faithful arity made,
)
