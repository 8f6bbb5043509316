-- Answers to a value that is expected to be of a type.
use Rattle.std.proofs.Common.{◌≡◌, ◌≢◌, Option, Some, None, Err, sym, ap, ◌∙◌}
use Rattle.cedar_model.specs.Failures.{Failure, out_of_memory, Answer, fails}
use Rattle.cedar_model.specs.Operators.{expecting}
use Rattle.cedar_errors.specs.declared.evaluator.err.EvaluationError.{EvaluationError}
use Rattle.cedar_errors.specs.Failures.{failure_of}
use Rattle.cedar_errors.specs.Answers.{Answers, FailsWith}

module _ {A : Type 0} where
  -- a value of the type: goes on
  pub goes_on : (o : Option A) (x : A) (f : Failure) (next : A → Answer) (a : Answer) → o ≡ Some x → a ≡ next x → a ≡ expecting o f next
  unfolding expecting
  goes_on o x f next a is then = then ∙ sym (ap (λ p. expecting p f next) is)

  -- another: the error that it is none
  pub refuses : (o : Option A) (f : Failure) (next : A → Answer) (e : EvaluationError) → (failure_of e ≢ out_of_memory → o ≡ None) → FailsWith e f → Answers (Err e) (expecting o f next)
  unfolding expecting
  refuses o f next e none is ok =
      let want : failure_of e ≢ out_of_memory = λ m. ok (ap fails m) in
      ap fails (is want) ∙ sym (ap (λ p. expecting p f next) (none want))
