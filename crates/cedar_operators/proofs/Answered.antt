-- The answer of a call that gives a value, where a residual may be answered too.
use Rattle.std.proofs.Common.{◌≡◌, Result, ◌∙◌}
use Rattle.cedar_model.specs.Failures.{Answer}
use Rattle.cedar_values.specs.Sound.{Placed}
use Rattle.cedar_values.specs.declared.partial_value.PartialValue.{PartialValue}
use Rattle.cedar_errors.specs.Answers.{value_answer, partial_answer, Answers, AnswersWith}
use Rattle.cedar_errors.specs.declared.evaluator.err.EvaluationError.{EvaluationError}

pub as_answers : (r : Result Placed EvaluationError) (p : Result PartialValue EvaluationError) (a : Answer)
    → partial_answer p ≡ value_answer r → Answers r a → AnswersWith p a
as_answers r p a same is ok = same ∙ is (λ m. ok (same ∙ m))
