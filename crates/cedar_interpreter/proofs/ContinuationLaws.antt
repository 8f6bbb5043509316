-- What follows of what comes next in an evaluation.
use Rattle.std.specs.Prelude.{◌≡◌, ◌≢◌, ◌≤◌, ℕ, zero, suc, Option, Result, Ok, Err, IfOk}
use Rattle.std.proofs.Common.{refl, sym, subst}
use Rattle.std.specs.declared.alloc.AllocError.{AllocError}
use Rattle.std.specs.declared.alloc.Global.{Global}
use Rattle.std.specs.declared.boxed.Box.{Box}
use Rattle.cedar_model.specs.Terms.{Term}
use Rattle.cedar_model.specs.Failures as model
use Rattle.cedar_model.specs.Failures.{Answer, answers, fails, limit, out_of_memory}
use Rattle.cedar_model.specs.Settings.{Setting, RequestPart}
use Rattle.cedar_model.specs.Rules.{StoredCalls}
use Rattle.cedar_model.proofs.Injections.{answers_is_not_fails}
use Rattle.cedar_names.specs.declared.names.Loc.{Loc}
use Rattle.cedar_expressions.specs.View.{view, expr_loc}
use Rattle.cedar_values.specs.declared.partial_value.PartialValue.{PartialValue}
use Rattle.cedar_values.specs.Residuals.{partial_view}
use Rattle.cedar_extensions.specs.Extensions.{extensions_view}
use Rattle.cedar_operators.specs.declared.partial.connectives.Connective.{Connective}
use Rattle.cedar_operators.specs.declared.partial.connectives.Connective.TheVariants as connectives
use Rattle.cedar_operators.specs.Connectives.{joined_terms}
use Rattle.cedar_frames.specs.declared.machine.Transition.TheVariants.{Done}
use Rattle.cedar_restricted.specs.declared.parts.PartsFrame.{PartsFrame}
use Rattle.cedar_restricted.specs.Frames as restricted
use Rattle.cedar_restricted.specs.Frames.{NextPart}
use Rattle.cedar_interpreter.specs.declared.stopped.Stopped.TheVariants as stops
use Rattle.cedar_interpreter.specs.declared.evaluation.Evaluation.{Evaluation}
use Rattle.cedar_interpreter.specs.declared.frame.Pending.{Pending}
use Rattle.cedar_interpreter.specs.declared.frame.Pending.TheVariants as pendings
use Rattle.cedar_interpreter.specs.declared.frame.Task.{Task}
use Rattle.cedar_interpreter.specs.declared.frame.Task.TheVariants as tasks
use Rattle.cedar_interpreter.specs.Settings.{evaluation_setting, calls_in}
use Rattle.cedar_interpreter.proofs.Requests.{some_request}
use Rattle.cedar_interpreter.specs.Tasks.{SharedExpr, Next, WaitsFor, Gives, IsWaiting, Continues, Leads, IsOrWant}
use Rattle.cedar_interpreter.specs.Parts.{IsTaken}
use Rattle.cedar_interpreter.proofs.PartsLaws.{parts_fewer}
use Rattle.cedar_interpreter.proofs.Laws.{waiting_starts, starts_placed, continues_placed, taken_placed, gives_placed, or_out_of_memory_continues}
use Rattle.cedar_interpreter.proofs.Laws.{given_fewer, continues_fewer, continues_leads, parts_lead, failed_leads}
use Rattle.cedar_interpreter.proofs.Laws.{limit_leads, out_of_memory_leads}
use Rattle.cedar_interpreter.specs.Continuations.{StartsAt, ContinuesAt, StartsIn, ContinuesIn, LeadsIn}

pub starts_in : {X : Type 0} {F : X → Type 0} {g : _} (e : Evaluation X F g) (levels : ℕ) (w : SharedExpr) (t : Term)
    (n : Next) → StartsAt e w t n → StartsIn e levels w t n
starts_in e levels w t n h = (
  λ r k speaks low. h r k,
  starts_placed (evaluation_setting some_request e) (calls_in e) 0 (expr_loc w.value) t n (h some_request 0),
)

-- what waits for a part starts, where the rules make an answer of whatever the part answers
pub waits_at : {X : Type 0} {F : X → Type 0} {g : _} (e : Evaluation X F g) (w : SharedExpr) (p : Pending) (t : Term)
    (c : SharedExpr) (n : Next) →
    ((r : RequestPart) (k : ℕ) → WaitsFor (evaluation_setting r e) (calls_in e) k (tasks.Other p) t (view c.value)) →
    IsWaiting w (tasks.Other p) c n → StartsAt e w t n
waits_at e w p t c n waits is = λ r k.
    waiting_starts (evaluation_setting r e) (calls_in e) k w p t c n (waits r k) is

-- `&&` and `||` wait for their left side
pub left_side_waits : (s : Setting) (calls : StoredCalls) (k : ℕ) (c : Connective) (right : SharedExpr) (left : Term) →
    WaitsFor s calls k (tasks.Other (pendings.LeftSide c right)) (joined_terms c left (view right.value)) left
left_side_waits s calls k connectives.And right left = λ x a runs uses. (x, runs, uses)
left_side_waits s calls k connectives.Or right left = λ x a runs uses. (x, runs, uses)

pub continues_in : {X : Type 0} {F : X → Type 0} {g : _} (e : Evaluation X F g) (levels : ℕ) (w : SharedExpr) (p : Pending)
    (x : Answer) (n : Next) → ContinuesAt e w p x n → ContinuesIn e levels w p x n
continues_in e levels w p x n h = (
  λ r k speaks low. h r (suc k),
  continues_placed (evaluation_setting some_request e) (calls_in e) 0 (expr_loc w.value) p x n (h some_request 0),
  continues_fewer (evaluation_setting some_request e) (calls_in e) 0 (expr_loc w.value) p x n (h some_request 0),
)

-- where memory may run out
pub or_out_of_memory_at : {X : Type 0} {F : X → Type 0} {g : _} (e : Evaluation X F g) (w : SharedExpr) (p : Pending) (x : Answer)
    (m : Result Next AllocError) (n : Next) → IfOk m (ContinuesAt e w p x) → IsOrWant m n → ContinuesAt e w p x n
or_out_of_memory_at e w p x (Ok m) n goes is = subst (ContinuesAt e w p x) (sym is) goes
or_out_of_memory_at e w p x (Err f) n goes is = λ r k.
    or_out_of_memory_continues (evaluation_setting r e) (calls_in e) k (expr_loc w.value) p x (Err f) n tt is

-- a value or residual shows that parts have a level
value_leads : (s : Setting) (calls : StoredCalls) (k : ℕ) (l : Option Loc) (p : Pending) (v : model.PartialValue)
    (n : Next) → ((j : ℕ) → k ≡ suc j → Continues s calls (suc j) l p (answers v) n) →
    Leads s calls k l (tasks.Other p) (answers v) n
value_leads s calls zero l p v n h =
    λ t c waits meets. absurd (answers_is_not_fails v model.recursion_limit (meets (answers_is_not_fails v out_of_memory)))
value_leads s calls (suc j) l p v n h =
    continues_leads s calls (suc j) l p (answers v) n (answers_is_not_fails v out_of_memory) (h j refl)

-- what goes on after a value or a residual leads on
pub value_leads_in : {X : Type 0} {F : X → Type 0} {g : _} (e : Evaluation X F g) (levels : ℕ) (w : SharedExpr) (p : Pending)
    (v : model.PartialValue) (n : Next) →
    ContinuesIn e levels w p (answers v) n → LeadsIn e levels w (tasks.Other p) (answers v) n
value_leads_in e levels w p v n (goes, place, fewer) = (
  λ r k speaks low. value_leads (evaluation_setting r e) (calls_in e) k (expr_loc w.value) p v n
      (λ j is. goes r j speaks (subst (λ i. levels ≤ suc i) is low)),
  place,
  fewer,
)

-- what goes on after an error leads on
pub failure_leads_in : {X : Type 0} {F : X → Type 0} {g : _} (e : Evaluation X F g) (levels : ℕ) (w : SharedExpr)
    (p : Pending) (f : model.Failure) (n : Next) → fails f ≢ fails out_of_memory → ContinuesAt e w p (fails f) n →
    LeadsIn e levels w (tasks.Other p) (fails f) n
failure_leads_in e levels w p f n ordinary h = (
  λ r k speaks low. continues_leads (evaluation_setting r e) (calls_in e) k (expr_loc w.value) p (fails f) n ordinary (h r k),
  continues_placed (evaluation_setting some_request e) (calls_in e) 0 (expr_loc w.value) p (fails f) n (h some_request 0),
  continues_fewer (evaluation_setting some_request e) (calls_in e) 0 (expr_loc w.value) p (fails f) n (h some_request 0),
)

-- in a set, a record or a call
pub parts_failure_in : {X : Type 0} {F : X → Type 0} {g : _} (e : Evaluation X F g) (levels : ℕ) (w : SharedExpr)
    (f : Box PartsFrame Global) (x : model.Failure) (n : Next) →
    Gives (expr_loc w.value) n (fails x) → LeadsIn e levels w (tasks.Parts f) (fails x) n
parts_failure_in e levels w f x n gives = (
  λ r k speaks low. failed_leads (evaluation_setting r e) (calls_in e) k (expr_loc w.value) f x n gives,
  gives_placed (expr_loc w.value) n (fails x) gives,
  given_fewer (expr_loc w.value) (tasks.Parts f) n (fails x) gives,
)

pub parts_lead_in : {X : Type 0} {F : X → Type 0} {g : _} (e : Evaluation X F g) (levels : ℕ) (w : SharedExpr)
    (f : Box PartsFrame Global) (p : PartialValue) (x : NextPart) (n : Next) →
    restricted.ContinuesParts (extensions_view e.given.now.extensions.now) (calls_in e) f.value (Ok p) x →
    IsTaken (expr_loc w.value) x n → LeadsIn e levels w (tasks.Parts f) (answers (partial_view p)) n
parts_lead_in e levels w f p x n goes taken = (
  λ r k speaks low. parts_lead (evaluation_setting r e) (calls_in e) k (expr_loc w.value) f p x n goes taken,
  taken_placed (expr_loc w.value) x n taken,
  parts_fewer (extensions_view e.given.now.extensions.now) (calls_in e) (expr_loc w.value) f p x n goes taken,
)

-- what ends all
pub limit_leads_in : {X : Type 0} {F : X → Type 0} {g : _} (e : Evaluation X F g) (levels : ℕ) (w : SharedExpr)
    (task : Task) → LeadsIn e levels w task limit (Done (Err stops.Limit))
limit_leads_in e levels w task =
    (λ r k speaks low. limit_leads (evaluation_setting r e) (calls_in e) k (expr_loc w.value) task, tt, tt)

pub out_of_memory_leads_in : {X : Type 0} {F : X → Type 0} {g : _} (e : Evaluation X F g) (levels : ℕ) (w : SharedExpr) (task : Task)
    (x : Answer) → LeadsIn e levels w task x (Done (Err stops.Memory))
out_of_memory_leads_in e levels w task x =
    (λ r k speaks low. out_of_memory_leads (evaluation_setting r e) (calls_in e) k (expr_loc w.value) task x, tt, tt)
