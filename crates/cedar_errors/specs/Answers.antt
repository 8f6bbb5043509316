-- What calls answer, as plain data.
use Rattle.std.specs.Prelude.{◌≡◌, ◌≢◌, Result, Ok, Err}
use Rattle.cedar_model.specs.Failures.{Failure, out_of_memory, Answer, answers, fails, answers_value}
use Rattle.cedar_values.specs.declared.partial_value.PartialValue.{PartialValue}
use Rattle.cedar_values.specs.Residuals.{partial_view}
use Rattle.cedar_values.specs.Sound.{Placed}
use Rattle.cedar_errors.specs.declared.evaluator.err.EvaluationError.{EvaluationError}
use Rattle.cedar_errors.specs.Failures.{failure_of}

-- the answer of a call that gives a value
abbrev pub value_answer : Result Placed EvaluationError → Answer
value_answer (Ok v) = answers_value v.what
value_answer (Err e) = fails (failure_of e)

-- the answer of a call that gives a value or a residual
abbrev pub partial_answer : Result PartialValue EvaluationError → Answer
partial_answer (Ok p) = answers (partial_view p)
partial_answer (Err e) = fails (failure_of e)

-- a call that gives a value answers this, unless it finds no memory
abbrev pub Answers : Result Placed EvaluationError → Answer → Type 0
Answers r a = value_answer r ≢ fails out_of_memory → value_answer r ≡ a

-- a call that gives a value or a residual answers this, unless it finds no memory
abbrev pub AnswersWith : Result PartialValue EvaluationError → Answer → Type 0
AnswersWith r a = partial_answer r ≢ fails out_of_memory → partial_answer r ≡ a

-- an error is this failure, unless it is out of memory
abbrev pub FailsWith : EvaluationError → Failure → Type 0
FailsWith e f = failure_of e ≢ out_of_memory → failure_of e ≡ f
