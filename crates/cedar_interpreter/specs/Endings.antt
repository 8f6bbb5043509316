-- Why an evaluation stops, as plain data.
use Rattle.std.specs.Prelude.{Result, Ok, Err}
use Rattle.std.specs.declared.alloc.Global.{Global}
use Rattle.std.specs.declared.boxed.Box.{Box}
use Rattle.cedar_model.specs.Failures.{Failure, recursion_limit, out_of_memory, Answer, answers, fails}
use Rattle.cedar_values.specs.declared.partial_value.PartialValue.{PartialValue}
use Rattle.cedar_values.specs.Residuals.{partial_view}
use Rattle.cedar_errors.specs.Failures.{failure_of}
use Rattle.cedar_interpreter.specs.declared.stopped.Stopped.{Stopped}
use Rattle.cedar_interpreter.specs.declared.stopped.Stopped.TheVariants as stops

-- the failure for which an evaluation stopped
abbrev pub stopped_failure : Stopped → Failure
stopped_failure stops.Memory = out_of_memory
stopped_failure stops.Limit = recursion_limit
stopped_failure (stops.Failed f) = failure_of f.value.error

-- what a value or a residual in a box answers
abbrev pub boxed_answer : Box PartialValue Global → Answer
boxed_answer p = answers (partial_view p.value)

-- what an evaluation ends with
abbrev pub Ending : Type 0
Ending = Result (Box PartialValue Global) Stopped

-- what it answers
abbrev pub ending_answer : Ending → Answer
ending_answer (Ok p) = answers (partial_view p.value)
ending_answer (Err e) = fails (stopped_failure e)
