-- What a call of a function does.
use Rattle.std.specs.Prelude.{ℕ, List}
use Rattle.cedar_model.specs.Values.{Represented}
use Rattle.cedar_model.specs.Failures.{Answer}
use Rattle.cedar_extensions.specs.declared.function.callee.Callee.{Callee}
use Rattle.cedar_extensions.specs.declared.function.callee.Callee.TheVariants as callees
use Rattle.cedar_extensions.specs.Answers.{AnswersBy, AsksOf}

-- how many arguments it takes
abbrev pub arity_of : {X : Type 0} {F : X → Type 0} {g : _} → Callee X F g → ℕ
arity_of (callees.Stored f) = f.arity
arity_of callees.Unknown = 1

-- what it may answer to values, besides running out of memory
abbrev pub CalleeAnswers : {X : Type 0} {F : X → Type 0} {g : _} → Callee X F g → List Represented → Answer → Type 0
CalleeAnswers {g = g} (callees.Stored f) vs a =
    AnswersBy f.arity (λ args r. g.post (f.func.vtable, f.func.value) (args, tt) r) vs a
CalleeAnswers callees.Unknown vs a = AsksOf vs a
