use Rattle.std.proofs.Common.{◌≡◌}
use Rattle.cedar_expressions.specs.View.{fields_view}
use Rattle.cedar_json_reader.specs.NothingUnknown.{first_open}
use Rattle.cedar_json_reader.proofs.unknowns.first_open.Given as goal

abbrev pub invariant-fields : goal.invariant-fields
invariant-fields l = first_open (fields_view l.name-iterator) ≡ first_open (fields_view l.fields.entries)
