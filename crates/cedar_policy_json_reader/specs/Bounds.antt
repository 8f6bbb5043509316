-- What parts are read with, for private clauses.
use Rattle.std.specs.Prelude.{ℕ, Bool, true, false, Option, Some, None}
use Rattle.cedar_functions.specs.Functions.{Knowledge, knowledge}
use Rattle.cedar_policy_json_reader.specs.declared.bounds.Bounds as bounds
use Rattle.cedar_policy_json_reader.specs.Expressions.{Around, Reading, undoubled_said, expression_said}

-- in the left side of an `is .. in`, or elsewhere
abbrev pub said_there : Bool → Knowledge → ℕ → Reading
said_there true fs n = undoubled_said fs n
said_there false fs n = expression_said fs n

abbrev pub left_there : Bool → Knowledge → ℕ → Option Reading
left_there true fs n = None
left_there false fs n = Some (undoubled_said fs n)

-- what parts say that have at most so many levels
abbrev pub within : bounds.Bounds → Reading
within b = said_there b.is_doubled (knowledge b.functions.now) b.limit

abbrev pub around : bounds.Bounds → Around
around b = record {
  known = knowledge b.functions.now;
  left = left_there b.is_doubled (knowledge b.functions.now) b.limit;
}

-- what the left side of an `is .. in` says
abbrev pub doubled : bounds.Bounds → Reading
doubled b = undoubled_said (knowledge b.functions.now) b.limit
