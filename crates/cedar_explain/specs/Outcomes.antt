-- What a part of a condition comes to, as `&&`, `||`, `!` and `if` see it, and what they make of that.
use Rattle.std.specs.Prelude.{Bool, true, false, Option, Some, None}
use Rattle.cedar_model.specs.Values.{abstract_value}
use Rattle.cedar_model.specs.Outcomes.{type_error, Outcome, gives, errs, bool_of}
use Rattle.cedar_model.specs.Failures.{FailureKind, of_meaning, of_residual, failure_kind, value, residual, Answer}
use Rattle.cedar_model.specs.Failures.{answers, fails}

-- true, false, a value that is no boolean, or an error of this kind
pub data Came : Type 0 where
  came_true : Came
  came_false : Came
  came_other : Came
  came_failing : FailureKind → Came

abbrev pub came_bool : Option Bool → Came
came_bool None = came_other
came_bool (Some true) = came_true
came_bool (Some false) = came_false

-- what an expression means in a world
abbrev pub meant : Outcome → Came
meant (gives v) = came_bool (bool_of v)
meant (errs e) = came_failing (of_meaning e)

-- what an evaluator answers
abbrev pub answered : Answer → Came
answered (answers (value v)) = came_bool (bool_of (abstract_value v))
answered (answers (residual t)) = came_failing of_residual
answered (fails f) = came_failing (failure_kind f)

abbrev pub failing_type : Came
failing_type = came_failing (of_meaning type_error)

-- ---- connectives

-- as a side of `&&` or `||`: a value that is no boolean is a type error
abbrev pub as_side : Came → Came
as_side came_true = came_true
as_side came_false = came_false
as_side came_other = failing_type
as_side (came_failing k) = came_failing k

abbrev pub negated : Came → Came
negated came_true = came_false
negated came_false = came_true
negated came_other = failing_type
negated (came_failing k) = came_failing k

-- the second where the first is true, the third where it is false
abbrev pub chosen : Came → Came → Came → Came
chosen came_true x y = x
chosen came_false x y = y
chosen came_other x y = failing_type
chosen (came_failing k) x y = came_failing k
