-- What a restricted expression may answer, as plain data.
use Rattle.std.specs.Prelude.{◌≡◌, ◌≢◌, ◌↔◌, ℕ, Bool, false, None, Result, Ok, Err, alloc_error}
use Rattle.cedar_model.specs.Terms.{Term}
use Rattle.cedar_model.specs.World as model
use Rattle.cedar_model.specs.Failures.{residual_is_left, Answer, value, residual, answers, fails, limit}
use Rattle.cedar_model.specs.Settings.{shallow, Setting, unknown_entry, absent_context}
use Rattle.cedar_model.specs.Meaning.{meaning}
use Rattle.cedar_model.specs.Rules.{StoredCalls, Runs, Allows, Exceeds}
use Rattle.cedar_model.specs.Agreement.{AgreesWithFunctions, IsKnown, AnswersOutcome}
use Rattle.cedar_values.specs.declared.partial_value.PartialValue.{PartialValue}
use Rattle.cedar_errors.specs.declared.evaluator.err.EvaluationError.{EvaluationError}
use Rattle.cedar_errors.specs.declared.evaluator.err.EvaluationError.TheVariants as errors
pub use Rattle.cedar_errors.specs.Answers.{partial_answer, value_answer, AnswersWith}
use Rattle.cedar_errors.specs.Finals.{is_final}

-- where a value is asked for, a residual that is left is an error
unfoldable pub only_values : Answer → Answer
only_values (answers (value v)) = answers (value v)
only_values (answers (residual r)) = fails (residual_is_left r)
only_values (fails e) = fails e

-- ---- what is given

-- these extensions, and no map; what else is given is not read
pub record IsBare (x : model.Extensions) (s : Setting) : Type 0 where
  pub no_map : s.map ≡ (λ n. None)
  pub has_extensions : s.extensions ≡ x

-- the least that is given
abbrev pub bare_setting : model.Extensions → Setting
bare_setting x =
    record {
      request = record {
        principal_entry = unknown_entry None;
        action_entry = unknown_entry None;
        resource_entry = unknown_entry None;
        context_part = absent_context;
      };
      store = record { entity = λ e. None; is_partial = false };
      map = λ n. None;
      slots = λ i. None;
      extensions = x;
      resolution = shallow;
    }

-- ---- what is answered

-- with so many levels, where stored functions may answer this: the recursion limit exactly where the need is above
-- them, else what the rules allow
pub record IsAnswerWithin (s : Setting) (calls : StoredCalls) (levels : ℕ) (t : Term) (a : Answer) : Type 0 where
  pub runs : Runs s calls levels t a
  pub limited : a ≡ limit ↔ Exceeds s calls t levels
  pub allowed : a ≢ limit → Allows s calls t a

-- and of a residual the error that it is left
abbrev pub IsValueWithin : Setting → StoredCalls → ℕ → Term → Answer → Type 0
IsValueWithin s calls levels t a = (b : Answer) × IsAnswerWithin s calls levels t b × (a ≡ only_values b)

-- where the expression has no unknown and its functions answer none, in every world the meaning's value or first error,
-- but for the recursion limit: what stands outside the expression is not read
abbrev pub IsKnownExactly : model.Extensions → StoredCalls → Term → Answer → Type 0
IsKnownExactly x calls t a =
    (ans : model.Functions) → AgreesWithFunctions ans calls → IsKnown ans t → a ≢ limit →
    (w : model.World) (slots : model.Slots) → AnswersOutcome a (meaning x ans w slots t)

-- ---- errors that end an evaluation at once

-- the recursion limit is met, and memory runs out
abbrev pub limit_error : EvaluationError
limit_error = errors.RecursionLimit (record { source_loc = None })

abbrev pub out_of_memory_error : EvaluationError
out_of_memory_error = errors.Memory alloc_error

abbrev pub ends_all : Result PartialValue EvaluationError → Bool
ends_all (Ok p) = false
ends_all (Err e) = is_final e
