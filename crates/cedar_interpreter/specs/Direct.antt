-- What is evaluated directly, without a turn of the loop.
use Rattle.std.specs.Prelude.{◌≡◌, ◌≤◌, ℕ, suc, Bool}
use Rattle.std.specs.Prelude.{Option, Some, None}
use Rattle.std.specs.declared.alloc.Global.{Global}
use Rattle.std.specs.declared.boxed.Box.{Box}
use Rattle.cedar_model.specs.Terms.{Term, bool_literal}
use Rattle.cedar_model.specs.Values.{plain_represented, abstract_value}
use Rattle.cedar_model.specs.Outcomes.{bool_of}
use Rattle.cedar_model.specs.Failures.{value, answers, answers_value, answers_bool}
use Rattle.cedar_model.specs.Settings.{Setting}
use Rattle.cedar_model.specs.Rules.{StoredCalls, Runs}
use Rattle.cedar_expressions.specs.View.{view, expr_loc}
use Rattle.cedar_values.specs.Sound.{Placed}
use Rattle.cedar_values.specs.declared.partial_value.PartialValue.{PartialValue}
use Rattle.cedar_values.specs.Residuals.{partial_view}
use Rattle.cedar_model.specs.Settings.{RequestPart}
use Rattle.cedar_names.specs.declared.names.Loc.{Loc}
use Rattle.cedar_frames.specs.declared.machine.Transition.TheVariants.{Done, Wait}
use Rattle.cedar_interpreter.specs.declared.evaluation.Evaluation.{Evaluation}
use Rattle.cedar_interpreter.specs.declared.frame.Pending.{Pending}
use Rattle.cedar_interpreter.specs.declared.frame.Task.TheVariants as tasks
use Rattle.cedar_interpreter.specs.Settings.{Speaks, evaluation_setting, calls_in}
use Rattle.cedar_interpreter.specs.Tasks.{SharedExpr, Next, Gives}

-- the value, if there is one, is right of the term, with so many levels
abbrev pub IsDirectValue : Setting → StoredCalls → ℕ → Term → Option Placed → Type 0
IsDirectValue s calls k t None = Unit {0}
IsDirectValue s calls k t (Some v) = Runs s calls k t (answers_value v.what)

-- the same in a box
abbrev pub IsDirectAnswer : Setting → StoredCalls → ℕ → Term → Option (Box PartialValue Global) → Type 0
IsDirectAnswer s calls k t None = Unit {0}
IsDirectAnswer s calls k t (Some b) = Runs s calls k t (answers (partial_view b.value))

-- the boolean, if there is one, is right of the term, with so many levels
abbrev pub IsDirectBool : Setting → StoredCalls → ℕ → Term → Option Bool → Type 0
IsDirectBool s calls k t None = Unit {0}
IsDirectBool s calls k t (Some b) = Runs s calls k t (answers_bool b)

-- the value in a box, unless out of memory
abbrev pub IsBoxOf : Option Placed → Option (Box PartialValue Global) → Type 0
IsBoxOf o None = Unit {0}
IsBoxOf None (Some b) = ⊥
IsBoxOf (Some v) (Some b) = partial_view b.value ≡ value v.what

-- the boolean that the value is, if it is one
abbrev pub IsBoolOf : Option Placed → Option Bool → Type 0
IsBoolOf o None = Unit {0}
IsBoolOf None (Some b) = ⊥
IsBoolOf (Some v) (Some b) = bool_of (abstract_value v.what) ≡ Some b

-- the boolean as a value, if there is one
abbrev pub IsValueOf : Option Bool → Option Placed → Type 0
IsValueOf o None = Unit {0}
IsValueOf None (Some v) = ⊥
IsValueOf (Some b) (Some v) = v.what ≡ plain_represented (bool_literal b)

-- the value, at this place
abbrev pub IsMovedTo : Option Placed → Option Loc → Option Placed → Type 0
IsMovedTo o l None = Unit {0}
IsMovedTo None l (Some w) = ⊥
IsMovedTo (Some v) l (Some w) = (w.what ≡ v.what) × (w.loc ≡ l)

-- ---- what is evaluated directly in an evaluation

-- the term has this value, with at least this many levels
abbrev pub HasDirectValue : {X : Type 0} {F : X → Type 0} {g : _} → Evaluation X F g → ℕ → Term → Option Placed → Type 0
HasDirectValue e h t o = (r : RequestPart) (k : ℕ) → Speaks r e → h ≤ k → IsDirectValue (evaluation_setting r e) (calls_in e) k t o

-- the same as a boolean
abbrev pub HasDirectBool : {X : Type 0} {F : X → Type 0} {g : _} → Evaluation X F g → ℕ → Term → Option Bool → Type 0
HasDirectBool e h t b = (r : RequestPart) (k : ℕ) → Speaks r e → h ≤ k → IsDirectBool (evaluation_setting r e) (calls_in e) k t b

-- the term has this value, where its parts have at least this many levels
abbrev pub HasDirectValueAbove : {X : Type 0} {F : X → Type 0} {g : _} → Evaluation X F g → ℕ → Term → Option Placed → Type 0
HasDirectValueAbove e h t o =
    (r : RequestPart) (k : ℕ) → Speaks r e → h ≤ k → IsDirectValue (evaluation_setting r e) (calls_in e) (suc k) t o

-- the part has this value, where so many levels are left for the whole
abbrev pub HasDirectValueIn : {X : Type 0} {F : X → Type 0} {g : _} → Evaluation X F g → ℕ → Term → Option Placed → Type 0
HasDirectValueIn e levels t o =
    (r : RequestPart) (k : ℕ) → Speaks r e → levels ≤ suc k → IsDirectValue (evaluation_setting r e) (calls_in e) k t o

-- the same in a box
abbrev pub HasDirectAnswerIn : {X : Type 0} {F : X → Type 0} {g : _} → Evaluation X F g → ℕ → Term
    → Option (Box PartialValue Global) → Type 0
HasDirectAnswerIn e levels t b =
    (r : RequestPart) (k : ℕ) → Speaks r e → levels ≤ suc k → IsDirectAnswer (evaluation_setting r e) (calls_in e) k t b

-- the same as a boolean
abbrev pub HasDirectBoolIn : {X : Type 0} {F : X → Type 0} {g : _} → Evaluation X F g → ℕ → Term → Option Bool → Type 0
HasDirectBoolIn e levels t b =
    (r : RequestPart) (k : ℕ) → Speaks r e → levels ≤ suc k → IsDirectBool (evaluation_setting r e) (calls_in e) k t b

-- the right side of `&&` or `||`, which must be a boolean: one that is evaluated directly is the answer where the whole stands, and
-- anything else is waited for
abbrev pub IsRightSide : {X : Type 0} {F : X → Type 0} {g : _} → Evaluation X F g → ℕ → SharedExpr → Pending → SharedExpr → Next
    → Type 0
IsRightSide e levels w p c (Done o) =
    (b : Bool) × ((r : RequestPart) (k : ℕ) → Speaks r e → levels ≤ suc (suc k) →
    Runs (evaluation_setting r e) (calls_in e) (suc k) (view c.value) (answers_bool b))
    × Gives (expr_loc w.value) (Done o) (answers_bool b)
IsRightSide e levels w p c (Wait f d) = (f.task ≡ tasks.Other p) × (d ≡ c) × (expr_loc f.whole.value ≡ expr_loc w.value)

-- the right side is waited for
abbrev pub IsAwaited : SharedExpr → Pending → SharedExpr → Next → Type 0
IsAwaited w p c (Done o) = ⊥
IsAwaited w p c (Wait f d) = (f.task ≡ tasks.Other p) × (d ≡ c) × (expr_loc f.whole.value ≡ expr_loc w.value)
