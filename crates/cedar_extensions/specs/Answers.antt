-- What calls answer, in the model's words.
use Rattle.std.specs.Prelude.{◌≡◌, ◌≢◌, ℕ, List, [], ◌∷◌, length, None, Ok, Err, option_map}
use Rattle.std.specs.Borrow.{Bor}
use Rattle.std.specs.Rc.{rc_str_bytes}
use Rattle.cedar_model.specs.Terms.{string_type, unknown}
use Rattle.cedar_model.specs.Values.{Represented, abstract_value}
use Rattle.cedar_model.specs.Outcomes.{text_of}
use Rattle.cedar_model.specs.Failures.{Answer, fails, answers_value, answers_residual, wrong_type}
use Rattle.cedar_model.specs.Failures.{out_of_memory}
use Rattle.cedar_model.specs.Operators.{expecting}
use Rattle.cedar_names.specs.Leaves.{type_view}
use Rattle.cedar_values.specs.Sound.{Placed, whats}
use Rattle.cedar_errors.specs.Failures.{failure_of}
use Rattle.cedar_errors.specs.declared.evaluator.err.EvaluationError.{EvaluationError}
use Rattle.cedar_extensions.specs.declared.function.stored.ExtensionOutputValue.TheVariants as outputs
use Rattle.cedar_extensions.specs.Outcomes.{Returned}

-- what a stored function returned: an unknown is a residual
abbrev pub returned_answer : Returned → Answer
returned_answer (Ok (outputs.Known v)) = answers_value v.what
returned_answer (Ok (outputs.Unknown u)) =
    answers_residual (unknown (rc_str_bytes u.name) (option_map type_view u.type_annotation))
returned_answer (Err e) = fails (failure_of e)

-- a function that is called as `post` says may answer this to n values, besides running out of memory
abbrev pub AnswersBy : ℕ → (Bor (List Placed) → Returned → Type 0) → List Represented → Answer → Type 0
AnswersBy n post vs a =
    (args : Bor (List Placed)) × (r : Returned) × (length args.now ≡ n) × (whats args.now ≡ vs) × post args r
    × (returned_answer r ≡ a) × (a ≢ fails out_of_memory)

-- the built-in `unknown`: of a text the untyped unknown of that name, and else a type error
abbrev pub asks : Represented → Answer
asks v =
    expecting (text_of (abstract_value v)) (wrong_type string_type [] (abstract_value v))
    (λ t. answers_residual (unknown t None))

-- the error that the value is no text, unless it is out of memory
abbrev pub IsTextExpected : Represented → EvaluationError → Type 0
IsTextExpected v e = failure_of e ≢ out_of_memory → failure_of e ≡ wrong_type string_type [] (abstract_value v)

-- to one argument alone
abbrev pub AsksOf : List Represented → Answer → Type 0
AsksOf [] a = ⊥
AsksOf (v ∷ []) a = a ≡ asks v
AsksOf (v ∷ (w ∷ vs)) a = ⊥
