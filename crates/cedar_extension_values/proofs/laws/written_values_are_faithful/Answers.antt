-- The law of calls, inside out.
use Rattle.cedar_extension_values.proofs.Offsets.{constructed_are_faithful, offsets_are_faithful}
use Rattle.cedar_extension_values.proofs.laws.written_values_are_faithful.Goals as goal

pub returns-clause-constructed : goal.returns-clause-constructed
returns-clause-constructed c = constructed_are_faithful c.calls_are_faithful.ensures

pub returns-clause-offsets : goal.returns-clause-offsets
returns-clause-offsets c = offsets_are_faithful c.calls_are_faithful.ensures
