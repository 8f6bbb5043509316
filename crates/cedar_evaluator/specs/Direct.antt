-- Conditions whose scope is decided at once.
use Rattle.std.specs.Prelude.{◌≡◌, ◌⊎◌, ℕ, ◌≤◌, Bool, Some}
use Rattle.cedar_model.specs.Terms.{Term, both, EntityName, entity_literal, Variable, BinaryOperator, eq_operator, in_operator}
use Rattle.cedar_model.specs.Values.{plain_represented}
use Rattle.cedar_model.specs.World.{Slots}
use Rattle.cedar_model.specs.Failures.{value, Answer, answers_bool}
use Rattle.cedar_model.specs.Rules.{Runs, Meets}
use Rattle.cedar_values.specs.Residuals.{partial_view}
use Rattle.cedar_layers.specs.Policies.{PolicyView}
use Rattle.cedar_interpreter.specs.Known.{within, known_view, known_for}
use Rattle.cedar_interpreter.specs.Settings.{given_for}
use Rattle.cedar_evaluator.specs.declared.evaluator.Evaluator.{Evaluator}
use Rattle.cedar_evaluator.specs.Evaluations.{setting_of, calls_in}

-- the scope of a policy
abbrev pub scope_term : PolicyView → Term
scope_term p = both (both p.principal_constraint p.action_constraint) p.resource_constraint

-- with these slots and so many levels the term answers this
abbrev pub AnswersAt : {X : Type 0} {F : X → Type 0} {g : _} → Evaluator X F g → Slots → ℕ → Term → Answer → Type 0
AnswersAt v slots n t a = Runs (setting_of v slots) (calls_in v) n t a

-- so it does with so many levels or more
abbrev pub AnswersFrom : {X : Type 0} {F : X → Type 0} {g : _} → Evaluator X F g → Slots → ℕ → Term → Answer → Type 0
AnswersFrom v slots least t a = (n : ℕ) → least ≤ n → AnswersAt v slots n t a

-- it is a boolean
abbrev pub IsTold : {X : Type 0} {F : X → Type 0} {g : _} → Evaluator X F g → Slots → Term → Type 0
IsTold v slots t = (b : Bool) × AnswersFrom v slots 3 t (answers_bool b)

-- the variable stands for an entity of which it is known what it is in
abbrev pub IsAtHand : {X : Type 0} {F : X → Type 0} {g : _} → Evaluator X F g → Variable → Type 0
IsAtHand v x =
    (d : EntityName) × (partial_view (given_for v.given x) ≡ value (plain_represented (entity_literal d)))
    × ((e : EntityName) → (b : Bool) × (within (known_view (known_for v.given.known x)) d e ≡ Some b))

-- `==` or `in`
abbrev pub IsComparison : BinaryOperator → Type 0
IsComparison op = (op ≡ eq_operator) ⊎ (op ≡ in_operator)

-- with so many levels the term answers this, unless out of memory
abbrev pub RunsWith : {X : Type 0} {F : X → Type 0} {g : _} → Evaluator X F g → Slots → ℕ → Term → Answer → Type 0
RunsWith v slots n t = Meets (Runs (setting_of v slots) (calls_in v) n t)
