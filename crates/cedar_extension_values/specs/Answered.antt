-- What a function of a standard extension comes to, as a world's functions answer.
use Rattle.std.specs.Prelude.{◌≡◌, List, map, Some, Result}
use Rattle.cedar_model.specs.Values.{AbstractValue, abstract_value}
use Rattle.cedar_model.specs.World.{FunctionAnswer}
use Rattle.cedar_model.specs.Failures.{Answer}
use Rattle.cedar_model.specs.Agreement.{function_answer}
use Rattle.cedar_values.specs.Sound.{Placed, whats}
use Rattle.cedar_errors.specs.Answers.{value_answer, Answers}
use Rattle.cedar_errors.specs.declared.evaluator.err.EvaluationError.{EvaluationError}

-- the abstract values of arguments
abbrev pub abstracts : List Placed → List AbstractValue
abstracts vs = map abstract_value (whats vs)

-- the value that was answered, or the kind of the error, is this, unless out of memory
abbrev pub ComesToValue : Result Placed EvaluationError → FunctionAnswer → Type 0
ComesToValue r o = (p : FunctionAnswer) → function_answer (value_answer r) ≡ Some p → p ≡ o

-- so it is where the answer is one that has this outcome, unless out of memory
abbrev pub AnswersComeToValues : Type 0
AnswersComeToValues =
    (r : Result Placed EvaluationError) (a : Answer) (o : FunctionAnswer) → Answers r a → function_answer a ≡ Some o
    → ComesToValue r o
