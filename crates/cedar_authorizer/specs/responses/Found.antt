-- What was made, as an option that is there: an error stays one.
use Rattle.std.specs.Prelude.{Result, Ok, Err, Option, Some}

abbrev pub as_found : {A E : Type 0} → Result A E → Result (Option A) E
as_found (Ok x) = Ok (Some x)
as_found (Err e) = Err e
