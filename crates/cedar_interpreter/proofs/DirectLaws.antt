-- What follows of what is evaluated directly, and of right sides.
use Rattle.std.specs.Prelude.{◌≡◌, ◌≤◌, ◌<◌, ℕ, zero, suc, Bool}
use Rattle.std.specs.Prelude.{Option, Some, None, Result, IfSome}
use Rattle.std.proofs.Common.{refl, sym, ap, ◌∙◌, subst, arith}
use Rattle.std.specs.declared.alloc.Global.{Global}
use Rattle.std.specs.declared.boxed.Box.{Box}
use Rattle.cedar_model.specs.Terms.{Text, Literal, Term, bool_literal, literal, get_attribute, has_attribute}
use Rattle.cedar_model.specs.Values.{Represented, plain_represented}
use Rattle.cedar_model.specs.Failures.{Answer, value, answers, answers_value, answers_bool, out_of_memory}
use Rattle.cedar_model.specs.Operators.{attribute_answer, attribute_residual, has_answer}
use Rattle.cedar_model.specs.Settings.{Setting}
use Rattle.cedar_model.specs.Rules.{StoredCalls, Runs, has_part}
use Rattle.cedar_expressions.specs.View.{view, expr_loc}
use Rattle.cedar_values.specs.Sound.{Placed}
use Rattle.cedar_values.specs.declared.partial_value.PartialValue.{PartialValue}
use Rattle.cedar_model.specs.Failures as model
use Rattle.cedar_model.specs.Settings.{RequestPart}
use Rattle.cedar_model.proofs.Injections.{answers_is_not_fails}
use Rattle.cedar_names.specs.declared.names.Loc.{Loc}
use Rattle.cedar_frames.specs.declared.machine.Transition.TheVariants.{Done, Wait}
use Rattle.cedar_interpreter.specs.declared.evaluation.Evaluation.{Evaluation}
use Rattle.cedar_interpreter.specs.declared.frame.Pending.{Pending}
use Rattle.cedar_interpreter.specs.declared.frame.Pending.TheVariants as pendings
use Rattle.cedar_interpreter.specs.declared.frame.Task.TheVariants as tasks
use Rattle.cedar_interpreter.specs.Endings.{ending_answer}
use Rattle.cedar_interpreter.specs.Booleans.{part_bool, is_bool}
use Rattle.cedar_interpreter.proofs.BooleanLaws.{leaves_right}
use Rattle.cedar_interpreter.specs.Settings.{Speaks, evaluation_setting, calls_in}
use Rattle.cedar_interpreter.proofs.Requests.{some_request}
use Rattle.cedar_interpreter.specs.Tasks.{SharedExpr, Next, AfterLeftSide, Uses, WaitsFor, WaitsAgain, Gives, pending_left}
use Rattle.cedar_interpreter.proofs.Laws.{continues_through, fewer_through, continues_placed, continues_fewer}
use Rattle.cedar_interpreter.proofs.Laws.{gives_starts, gives_placed, literal_joined}
use Rattle.cedar_errors.specs.declared.evaluator.err.EvaluationError.{EvaluationError}
use Rattle.cedar_errors.specs.Answers.{partial_answer, AnswersWith}
use Rattle.cedar_operators.specs.Operands.{over}
use Rattle.cedar_operators.specs.declared.partial.connectives.Connective.{Connective}
use Rattle.cedar_operators.specs.declared.partial.connectives.Connective.TheVariants as connectives
use Rattle.cedar_operators.specs.Connectives.{neutral, joined_terms, beside_neutral}
use Rattle.cedar_operators.specs.Parts.{projection}
use Rattle.cedar_interpreter.proofs.ReadLaws.{none_resolved, attribute_value}
use Rattle.cedar_interpreter.proofs.StoredLaws.{of_value, value_stays, part_stored}
use Rattle.cedar_interpreter.specs.Continuations.{ContinuesAt, StartsIn, ContinuesIn, LeadsIn}
use Rattle.cedar_interpreter.proofs.ContinuationLaws.{continues_in}
use Rattle.cedar_interpreter.specs.Direct.{IsDirectValue, IsDirectAnswer, IsDirectBool, IsBoxOf, IsBoolOf, IsMovedTo, IsRightSide, IsAwaited}

-- what has a value with one level more than these
pub direct_above : (s : Setting) (calls : StoredCalls) (h k : ℕ) (t u : Term) (o : Option Placed) → ((j : ℕ) → h ≤ j → IsDirectValue s calls (suc j) t o) →
    suc h ≤ k → t ≡ u → IsDirectValue s calls k u o
direct_above s calls h zero t u o direct low is = absurd (omega (arith, low))
direct_above s calls h (suc j) t u o direct low is = subst (λ x. IsDirectValue s calls (suc j) x o) is (direct j (omega (arith, low)))

pub literal_direct : (s : Setting) (calls : StoredCalls) (j : ℕ) (l : Literal) (o : Option Placed) → IfSome o (λ v. v.what ≡ plain_represented l) →
    IsDirectValue s calls (suc j) (literal l) o
literal_direct s calls j l None is = tt
literal_direct s calls j l (Some v) is = ap answers_value is

-- what answers a part that is this value
pub value_direct : (s : Setting) (calls : StoredCalls) (k : ℕ) (t : Term) (p : model.PartialValue) (o : Option Placed) → Runs s calls k t (answers p) →
    IfSome o (λ v. p ≡ value v.what) → IsDirectValue s calls k t o
value_direct s calls k t p None runs is = tt
value_direct s calls k t p (Some v) runs is = subst (λ q. Runs s calls k t (answers q)) is runs

-- the value that a call answered
pub value_found : (x : Result PartialValue EvaluationError) (o : Option Placed) (b : Answer) → IfSome o (λ v. partial_answer x ≡ answers_value v.what) →
    AnswersWith x b → IfSome o (λ v. answers_value v.what ≡ b)
value_found x None b same found = tt
value_found x (Some v) b same found = sym same ∙ found (λ w. answers_is_not_fails (value v.what) out_of_memory (sym same ∙ w))

-- an attribute of what has a value
pub attribute_direct : (s : Setting) (calls : StoredCalls) (j : ℕ) (t : Term) (w : Represented) (k : Text) (o : Option Placed) →
    Runs s calls j t (answers_value w) →
    IfSome o (λ a. answers_value a.what ≡ attribute_answer (over s s.store) w k) →
    IsDirectValue s calls (suc j) (get_attribute t k) o
unfolding projection
attribute_direct s calls j t w k None runs found = tt
attribute_direct s calls j t w k (Some a) runs found = (
  answers_value w,
  runs,
  part_stored (Runs s calls j) s (value w) k (answers_value a.what)
      (none_resolved s.resolution (attribute_residual s.store w k) (attribute_value s s.store w k a.what found))
      (value_stays s.map a.what (attribute_answer (over s s.store) w k) found ∙ sym (of_value s w k)),
)

-- whether what has a value has an attribute
pub has_direct : (s : Setting) (calls : StoredCalls) (j : ℕ) (t : Term) (w : Represented) (k : Text) (o : Option Placed) →
    Runs s calls j t (answers_value w) → IfSome o (λ a. answers_value a.what ≡ has_answer s w k) →
    IsDirectValue s calls (suc j) (has_attribute t k) o
unfolding has_part
has_direct s calls j t w k None runs found = tt
has_direct s calls j t w k (Some a) runs found = (answers_value w, runs, found)

-- a direct value, in a box, as a boolean, or at a place
pub boxed_direct : (s : Setting) (calls : StoredCalls) (k : ℕ) (t : Term) (o : Option Placed) (b : Option (Box PartialValue Global)) →
    IsDirectValue s calls k t o → IsBoxOf o b → IsDirectAnswer s calls k t b
boxed_direct s calls k t o None direct is = tt
boxed_direct s calls k t None (Some b) direct is = absurd is
boxed_direct s calls k t (Some v) (Some b) direct is = subst (λ p. Runs s calls k t (answers p)) (sym is) direct

pub bool_direct : (s : Setting) (calls : StoredCalls) (k : ℕ) (t : Term) (o : Option Placed) (b : Option Bool) →
    IsDirectValue s calls k t o → IsBoolOf o b → IsDirectBool s calls k t b
bool_direct s calls k t o None direct is = tt
bool_direct s calls k t None (Some b) direct is = absurd is
bool_direct s calls k t (Some v) (Some b) direct is = subst (Runs s calls k t) (is_bool v.what b is) direct

pub placed_direct : (s : Setting) (calls : StoredCalls) (k : ℕ) (t : Term) (o : Option Placed) (l : Option Loc) (p : Option Placed) →
    IsDirectValue s calls k t o → IsMovedTo o l p → IsDirectValue s calls k t p
placed_direct s calls k t o l None direct is = tt
placed_direct s calls k t None l (Some w) direct is = absurd is
placed_direct s calls k t (Some v) l (Some w) direct is = subst (λ x. Runs s calls k t (answers_value x)) (sym is.0) direct

-- where the first part of a term is evaluated directly, what its answer leads to is what starts
pub direct_starts : {X : Type 0} {F : X → Type 0} {g : _} (e : Evaluation X F g) (levels : ℕ) (w : SharedExpr) (p : Pending)
    (t c : Term) (v : model.PartialValue) (n : Next) →
    ((r : RequestPart) (k : ℕ) → WaitsFor (evaluation_setting r e) (calls_in e) k (tasks.Other p) t c) →
    ((r : RequestPart) (k : ℕ) → Speaks r e → levels ≤ suc k → Runs (evaluation_setting r e) (calls_in e) k c (answers v)) →
    LeadsIn e levels w (tasks.Other p) (answers v) n → StartsIn e levels w t n
direct_starts e levels w p t c v n waits direct (leads, place, fewer) =
    (λ r k speaks low. leads r k speaks low t c (waits r k) (λ ok. direct r k speaks low), place)

-- where the first part of a term is evaluated directly, what the rules make of it is the answer
pub direct_gives : {X : Type 0} {F : X → Type 0} {g : _} (e : Evaluation X F g) (levels : ℕ) (w : SharedExpr) (u t : Term)
    (v : Represented) (f : Answer → Answer) (n : Next) →
    ((r : RequestPart) (k : ℕ) (x a : Answer) → Runs (evaluation_setting r e) (calls_in e) k t x → a ≡ f x →
    Runs (evaluation_setting r e) (calls_in e) (suc k) u a) →
    ((r : RequestPart) (k : ℕ) → Speaks r e → levels ≤ suc k →
    Runs (evaluation_setting r e) (calls_in e) k t (answers_value v)) →
    Gives (expr_loc w.value) n (f (answers_value v)) → StartsIn e levels w u n
direct_gives e levels w u t v f n rule direct gives = (
  λ r k speaks low. gives_starts (evaluation_setting r e) (calls_in e) k (expr_loc w.value) u (f (answers_value v)) n
      (λ a ok is. rule r k (answers_value v) a (direct r k speaks low) is) gives,
  gives_placed (expr_loc w.value) n (f (answers_value v)) gives,
)

-- where the next part is evaluated directly, what continues after it continues
pub direct_continues : {X : Type 0} {F : X → Type 0} {g : _} (e : Evaluation X F g) (levels : ℕ) (w : SharedExpr) (p q : Pending)
    (x y : Answer) (n : Next) → pending_left q < pending_left p →
    ((r : RequestPart) (k : ℕ) → Speaks r e → levels ≤ suc (suc k) → (a : Answer) →
    Uses (evaluation_setting r e) (Runs (evaluation_setting r e) (calls_in e) (suc k)) q y a →
    Uses (evaluation_setting r e) (Runs (evaluation_setting r e) (calls_in e) (suc k)) p x a) →
    ContinuesAt e w q y n → ContinuesIn e levels w p x n
direct_continues e levels w p q x y n fewer lift goes = (
  λ r k speaks low. continues_through (evaluation_setting r e) (calls_in e) (suc k) (expr_loc w.value) p q x y n fewer
      (lift r k speaks low) (goes r (suc k)),
  continues_placed (evaluation_setting some_request e) (calls_in e) 0 (expr_loc w.value) q y n (goes some_request 0),
  fewer_through p q n fewer
      (continues_fewer (evaluation_setting some_request e) (calls_in e) 0 (expr_loc w.value) q y n (goes some_request 0)),
)

-- ---- right sides

pub awaited : {X : Type 0} {F : X → Type 0} {g : _} (e : Evaluation X F g) (levels : ℕ) (w : SharedExpr) (p : Pending)
    (c : SharedExpr) (n : Next) → IsAwaited w p c n → IsRightSide e levels w p c n
awaited e levels w p c (Done o) is = absurd is
awaited e levels w p c (Wait f d) is = is

pub right_given : {X : Type 0} {F : X → Type 0} {g : _} (e : Evaluation X F g) (levels : ℕ) (w : SharedExpr) (p : Pending)
    (c : SharedExpr) (n : Next) (b : Bool) →
    ((r : RequestPart) (k : ℕ) → Speaks r e → levels ≤ suc (suc k) →
    Runs (evaluation_setting r e) (calls_in e) (suc k) (view c.value) (answers_bool b)) →
    Gives (expr_loc w.value) n (answers_bool b) → IsRightSide e levels w p c n
right_given e levels w p c (Done o) b runs gives = (b, runs, gives)
right_given e levels w p c (Wait f d) b runs gives = absurd gives

-- a literal boolean
pub literal_right : {X : Type 0} {F : X → Type 0} {g : _} (e : Evaluation X F g) (levels : ℕ) (w : SharedExpr) (p : Pending)
    (c : SharedExpr) (n : Next) (b : Bool) → view c.value ≡ literal (bool_literal b) →
    Gives (expr_loc w.value) n (answers_bool b) → IsRightSide e levels w p c n
literal_right e levels w p c n b seen gives =
    right_given e levels w p c n b
    (λ r k speaks low. subst (λ t. Runs (evaluation_setting r e) (calls_in e) (suc k) t (answers_bool b)) (sym seen) refl) gives

-- beside a left side that does not decide
pub right_side_read : {X : Type 0} {F : X → Type 0} {g : _} (e : Evaluation X F g) (levels : ℕ) (w right : SharedExpr) (c : Connective)
    (p : model.PartialValue) (n : Next) → part_bool p ≡ Some (neutral c) → IsRightSide e levels w (pendings.RightSide c) right n →
    ContinuesIn e levels w (pendings.LeftSide c right) (answers p) n
right_side_read e levels w right c p (Done o) is (b, runs, (gives, place)) = (
  λ r k speaks low. (
    λ ok. leaves_right (Runs (evaluation_setting r e) (calls_in e) (suc k)) c p (view right.value) (answers_bool b)
        (ending_answer o) is (runs r k speaks low) (gives ok ∙ literal_joined (beside_neutral c) b),
    place,
  ),
  place,
  tt,
)
right_side_read e levels w right c p (Wait f d) is (task, part, place) =
    continues_in e levels w (pendings.LeftSide c right) (answers p) (Wait f d)
    (λ r k. (
      subst (λ x. WaitsAgain (evaluation_setting r e) (calls_in e) k (pendings.LeftSide c right) (answers p) x (view d.value))
          (sym task)
          (subst (λ y. WaitsAgain (evaluation_setting r e) (calls_in e) k (pendings.LeftSide c right) (answers p)
          (tasks.Other (pendings.RightSide c)) (view y.value)) (sym part) (
            omega arith,
            λ y a runs uses. leaves_right (Runs (evaluation_setting r e) (calls_in e) k) c p (view right.value) y a is runs uses,
          )),
      place,
    ))

-- ---- both sides

-- what the rules make of the left side is the answer of both
pub side_runs : (s : Setting) (calls : StoredCalls) (k : ℕ) (c : Connective) (t u : Term) (x a : Answer) → Runs s calls k t x →
    AfterLeftSide (Runs s calls k) c x u a → Runs s calls (suc k) (joined_terms c t u) a
side_runs s calls k connectives.And t u x a runs after = (x, runs, after)
side_runs s calls k connectives.Or t u x a runs after = (x, runs, after)
