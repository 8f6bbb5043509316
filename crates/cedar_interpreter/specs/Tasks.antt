-- What frames wait for, and what comes next.
use Rattle.std.specs.Prelude.{◌≡◌, ◌≢◌, ◌<◌, ℕ, suc, List, length, Option, Result, Ok, Err, IfOk}
use Rattle.std.specs.declared.alloc.AllocError.{AllocError}
use Rattle.std.specs.declared.alloc.Global.{Global}
use Rattle.std.specs.declared.rc.Rc.{Rc}
use Rattle.std.specs.Rc.{rc_str_bytes}
use Rattle.std.specs.declared.rc.RcStr.{RcStr}
use Rattle.cedar_model.specs.Terms.{Text, Terms, one_term, Term, if_then_else, unary, like}
use Rattle.cedar_model.specs.Failures.{Answer, fails, out_of_memory, answers_residual}
use Rattle.cedar_model.specs.Operators.{unary_answer, like_answer}
use Rattle.cedar_model.specs.Settings.{Setting}
use Rattle.cedar_model.specs.Rules.{MayAnswer, StoredCalls, Runs, Meets, best, AfterBest, AfterGuard, AfterAndLeft, AfterOrLeft, joined, on_part, AfterLeft, Resolves, beside_residual, binary_beside, AtAttribute, has_part, AtPath, is_part, Then}
use Rattle.cedar_names.specs.Names.{type_text}
use Rattle.cedar_names.specs.Leaves.{unary_view, binary_view, pattern_view, texts_view}
use Rattle.cedar_names.specs.declared.names.Loc.{Loc}
use Rattle.cedar_names.specs.declared.types.FirstRest.{FirstRest}
use Rattle.cedar_expressions.specs.declared.expr.Expr.{Expr}
use Rattle.cedar_expressions.specs.View.{view, terms_view, expr_loc}
use Rattle.cedar_values.specs.Residuals.{partial_view, partial_loc, partial_term, residual_term}
use Rattle.cedar_operators.specs.declared.partial.connectives.Connective.{Connective}
use Rattle.cedar_operators.specs.declared.partial.connectives.Connective.TheVariants as connectives
use Rattle.cedar_operators.specs.Connectives.{joined_terms, beside_neutral}
use Rattle.cedar_frames.specs.declared.machine.Transition.{Transition}
use Rattle.cedar_frames.specs.declared.machine.Transition.TheVariants.{Done, Wait}
use Rattle.cedar_restricted.specs.declared.parts.PartsFrame.{PartsFrame}
use Rattle.cedar_restricted.specs.Parts.{whole_term}
use Rattle.cedar_restricted.specs.Frames.{HasRead, parts_left, left_of}
use Rattle.cedar_interpreter.specs.declared.boxed_residual.BoxedResidual.{BoxedResidual}
use Rattle.cedar_interpreter.specs.declared.frame.Frame.{Frame}
use Rattle.cedar_interpreter.specs.declared.frame.Pending.{Pending}
use Rattle.cedar_interpreter.specs.declared.frame.Pending.TheVariants as pendings
use Rattle.cedar_interpreter.specs.declared.frame.Task.{Task}
use Rattle.cedar_interpreter.specs.declared.frame.Task.TheVariants as tasks
use Rattle.cedar_interpreter.specs.declared.stopped.Stopped.TheVariants as stops
use Rattle.cedar_interpreter.specs.Endings.{Ending, ending_answer}

-- what is evaluated
abbrev pub SharedExpr : Type 0
SharedExpr = Rc Expr Global

-- what comes next of an expression
abbrev pub Next : Type 0
Next = Transition Frame SharedExpr Ending

-- a value or residual stands at this place
abbrev pub StandsAt : Option Loc → Ending → Type 0
StandsAt l o = IfOk o (λ v. partial_loc v.value ≡ l)

-- the term of a residual in a box
abbrev pub boxed_term : BoxedResidual → Term
boxed_term b = partial_term (partial_view b.part.value)

-- ---- what is done with the answer of a part

-- what the rules do with the answer of a left side, before this right one
abbrev pub AfterLeftSide : MayAnswer → Connective → Answer → Term → Answer → Type 0
AfterLeftSide May connectives.And x t a = Then x (AfterAndLeft May t) a
AfterLeftSide May connectives.Or x t a = Then x (AfterOrLeft May t) a

-- what the rules do with a part's answer, where `May` says what parts may answer
abbrev pub Uses : Setting → MayAnswer → Pending → Answer → Answer → Type 0
Uses s May pendings.Passed x a = a ≡ x
Uses s May (pendings.Guard t e) x a = Then x (AfterGuard May (view t.value) (view e.value)) a
Uses s May (pendings.Then f) x a =
    AfterBest (best x (view f.value.then_expr.value)) (λ t b. (y : Answer) × May (view f.value.else_expr.value) y
    × AfterBest (best y (view f.value.else_expr.value))
    (λ e c. c ≡ answers_residual (if_then_else (residual_term f.value.guard) t e)) b) a
Uses s May (pendings.Else f) x a =
    AfterBest (best x (view f.value.else_expr.value))
    (λ e c. c ≡ answers_residual (if_then_else (residual_term f.value.guard) (view f.value.then_expr) e)) a
Uses s May (pendings.LeftSide c r) x a = AfterLeftSide May c x (view r.value) a
Uses s May (pendings.RightSide c) x a = a ≡ joined (beside_neutral c) x
Uses s May (pendings.KeptRightSide c l r) x a =
    AfterBest (best x (view r.value)) (λ t b. b ≡ answers_residual (joined_terms c (boxed_term l) t)) a
Uses s May (pendings.Unary op) x a = a ≡ on_part (unary_answer (unary_view op)) (unary (unary_view op)) x
Uses s May (pendings.BinaryLeft op r) x a = Then x (AfterLeft May s (binary_view op) (view r.value)) a
Uses s May (pendings.BinaryRight op l) x a =
    Resolves May s.resolution (beside_residual s.store (binary_view op) (partial_view l.value) x)
    (binary_beside s (binary_view op) (partial_view l.value) x) a
Uses s May (pendings.GetAttr k) x a = Then x (AtAttribute May s (rc_str_bytes k)) a
Uses s May (pendings.HasAttr k) x a = a ≡ has_part s (rc_str_bytes k) x
Uses s May (pendings.ExtHasAttr ks) x a =
    AtPath May s.resolution s.store x (rc_str_bytes ks.value.first) (texts_view ks.value.rest.items) a
Uses s May (pendings.Like p) x a = a ≡ on_part (like_answer (pattern_view p.value)) (λ r. like r (pattern_view p.value)) x
Uses s May (pendings.Is t) x a = a ≡ is_part (type_text t.value) x

-- ---- what is waited for

-- a set, a record or a call waits for its next part
pub record WaitsForPart (s : Setting) (Calls : StoredCalls) (k : ℕ) (f : PartsFrame) (t c : Term) : Type 0 where
  pub term : whole_term f.whole (terms_view f.parts.value.items) ≡ t
  pub next : (rest : Terms) × (parts_left f.parts f.answers ≡ one_term c rest)
  pub read : HasRead (Runs s Calls k) f.parts f.answers

-- the term t waits for the part c, where parts have so many levels: of whatever the part answers, the rules make an
-- answer of t
abbrev pub WaitsFor : Setting → StoredCalls → ℕ → Task → Term → Term → Type 0
WaitsFor s Calls k (tasks.Parts f) t c = WaitsForPart s Calls k f.value t c
WaitsFor s Calls k (tasks.Other p) t c =
    (x a : Answer) → Runs s Calls k c x → Uses s (Runs s Calls k) p x a → Runs s Calls (suc k) t a

-- ---- what comes next

-- the answer is this, at this place, unless out of memory
abbrev pub Gives : Option Loc → Next → Answer → Type 0
Gives l (Done r) a = (ending_answer r ≢ fails out_of_memory → ending_answer r ≡ a) × StandsAt l r
Gives l (Wait f c) a = ⊥

-- the term, which stands at this place, is answered, or waits for a part
abbrev pub Starts : Setting → StoredCalls → ℕ → Option Loc → Term → Next → Type 0
Starts s Calls k l t (Done r) =
    (ending_answer r ≢ fails out_of_memory → Runs s Calls (suc k) t (ending_answer r)) × StandsAt l r
Starts s Calls k l t (Wait f c) = WaitsFor s Calls k f.task t (view c.value) × (expr_loc f.whole.value ≡ l)

-- what comes next of the whole at this place stands there, or waits as it
abbrev pub HasPlace : Option Loc → Next → Type 0
HasPlace l (Done r) = StandsAt l r
HasPlace l (Wait f c) = expr_loc f.whole.value ≡ l

-- the whole waits for this part, with this to be done, unless out of memory
abbrev pub IsWaiting : SharedExpr → Task → SharedExpr → Next → Type 0
IsWaiting w t c (Done r) = r ≡ Err stops.Memory
IsWaiting w t c (Wait f d) = (f.task ≡ t) × (d.value ≡ c.value) × (f.whole.value ≡ w.value)

-- what comes next, or out of memory
abbrev pub IsOrWant : Result Next AllocError → Next → Type 0
IsOrWant (Ok n) x = x ≡ n
IsOrWant (Err e) x = x ≡ Done (Err stops.Memory)

-- the answer of this expression is that of the whole at this place, unless out of memory
abbrev pub IsPassed : Option Loc → Term → Next → Type 0
IsPassed l t (Done r) = r ≡ Err stops.Memory
IsPassed l t (Wait f c) = (f.task ≡ tasks.Other pendings.Passed) × (view c.value ≡ t) × (expr_loc f.whole.value ≡ l)

-- the task tests what is answered for these attributes
abbrev pub TestsFor : Task → Text → List Text → Type 0
TestsFor task k ks =
    (path : Rc (FirstRest (RcStr Global)) Global) × (task ≡ tasks.Other (pendings.ExtHasAttr path))
    × (rc_str_bytes path.value.first ≡ k) × (texts_view path.value.rest.items ≡ ks)

-- the whole at this place waits for this stored residual, to test it for the attributes after it, unless out of memory
abbrev pub IsWalkedOn : Option Loc → (Term × Text × List Text) → Next → Type 0
IsWalkedOn l read (Done r) = r ≡ Err stops.Memory
IsWalkedOn l read (Wait f c) =
    TestsFor f.task read.1 read.2 × (view c.value ≡ read.0) × (expr_loc f.whole.value ≡ l)

-- how often what waits can still wait, this time included
abbrev pub pending_left : Pending → ℕ
pending_left pendings.Passed = 1
pending_left (pendings.Guard t e) = 3
pending_left (pendings.Then f) = 2
pending_left (pendings.Else f) = 1
pending_left (pendings.LeftSide c r) = 2
pending_left (pendings.RightSide c) = 1
pending_left (pendings.KeptRightSide c l r) = 1
pending_left (pendings.Unary op) = 1
pending_left (pendings.BinaryLeft op r) = 3
pending_left (pendings.BinaryRight op l) = 2
pending_left (pendings.GetAttr k) = 2
pending_left (pendings.HasAttr k) = 1
pending_left (pendings.ExtHasAttr ks) = suc (length ks.value.rest.items)
pending_left (pendings.Like p) = 1
pending_left (pendings.Is t) = 1

-- after the first part answered x this task waits for another
abbrev pub WaitsAgain : Setting → StoredCalls → ℕ → Pending → Answer → Task → Term → Type 0
WaitsAgain s Calls k p x (tasks.Parts f) c = ⊥
WaitsAgain s Calls k p x (tasks.Other q) c =
    (pending_left q < pending_left p)
    × ((y a : Answer) → Runs s Calls k c y → Uses s (Runs s Calls k) q y a → Uses s (Runs s Calls k) p x a)

-- what waited, for the whole at this place, is answered, or waits for another part, after the first answered x
abbrev pub Continues : Setting → StoredCalls → ℕ → Option Loc → Pending → Answer → Next → Type 0
Continues s Calls k l p x (Done r) =
    (ending_answer r ≢ fails out_of_memory → Uses s (Runs s Calls k) p x (ending_answer r)) × StandsAt l r
Continues s Calls k l p x (Wait f c) = WaitsAgain s Calls k p x f.task (view c.value) × (expr_loc f.whole.value ≡ l)

-- a term that waits for a part is answered, or waits for another, after the part answered x
abbrev pub Leads : Setting → StoredCalls → ℕ → Option Loc → Task → Answer → Next → Type 0
Leads s Calls k l task x n =
    (t c : Term) → WaitsFor s Calls k task t c → Meets (Runs s Calls k c) x → Starts s Calls k l t n

-- how often a task can still wait
abbrev pub task_left : Task → ℕ
task_left (tasks.Parts f) = left_of f.value
task_left (tasks.Other p) = pending_left p

-- a task that waits again can wait less often than before
abbrev pub LeftFewer : Task → Next → Type 0
LeftFewer task (Done r) = Unit {0}
LeftFewer task (Wait f c) = task_left f.task < task_left task
