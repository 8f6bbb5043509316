-- The laws that the loop over frames asks of this evaluation.
use Rattle.std.specs.Prelude.{◌≡◌, ◌≢◌, ℕ, suc, ◌+◌, ◌^◌, ◌≤◌, true, List, None, Ok, Err}
use Rattle.std.proofs.Common.{refl, subst, arith}
use Rattle.cedar_model.specs.Terms.{Text, Term}
use Rattle.cedar_model.specs.Failures as model
use Rattle.cedar_model.specs.Failures.{Answer, value, fails, limit, out_of_memory, failure_kind}
use Rattle.cedar_model.specs.Settings.{RequestPart, Store, Resolution, shallow, deep, Setting}
use Rattle.cedar_model.specs.Rules.{MayAnswer, StoredCalls, Parts, Runs, Resolves, AtPath, best, best_of_kind, joined, on_part, beside_residual, binary_beside, has_part, is_part}
use Rattle.cedar_expressions.specs.View.{view, terms_view}
use Rattle.cedar_operators.specs.declared.partial.connectives.Connective.TheVariants as connectives
use Rattle.cedar_restricted.specs.declared.parts.PartsFrame.{PartsFrame}
use Rattle.cedar_restricted.specs.Steps.{so_far_fails, whole_fails}
use Rattle.cedar_interpreter.specs.declared.frame.Frame.{Frame}
use Rattle.cedar_interpreter.specs.declared.frame.Pending.{Pending}
use Rattle.cedar_interpreter.specs.declared.frame.Pending.TheVariants as pendings
use Rattle.cedar_interpreter.specs.declared.frame.Task.{Task}
use Rattle.cedar_interpreter.specs.declared.frame.Task.TheVariants as tasks
use Rattle.cedar_interpreter.specs.declared.stopped.Stopped.TheVariants as stops
use Rattle.cedar_interpreter.specs.Endings.{Ending}
use Rattle.cedar_interpreter.specs.Tasks.{SharedExpr, Uses, WaitsForPart, WaitsFor, pending_left, task_left}
use Rattle.cedar_interpreter.specs.Frames.{IsRight, FrameWaits, ends_all, left_of}

pub limit_is_not_out_of_memory : limit ≢ fails out_of_memory
limit_is_not_out_of_memory h = cc

pub resolved : (May : MayAnswer) (q : Resolution) (a : Answer) → Resolves May q None a a
resolved May shallow a = refl
resolved May deep a = refl

path_limit : (May : MayAnswer) (q : Resolution) (store : Store) (l : Text) (ls : List Text) → AtPath May q store limit l ls limit
unfolding on_part
path_limit May shallow store l ls = refl
path_limit May deep store l ls = refl

-- the recursion limit of a part is the whole's
uses_limit : (s : Setting) (May : MayAnswer) (p : Pending) → Uses s May p limit limit
unfolding best best_of_kind joined on_part binary_beside beside_residual has_part is_part failure_kind
uses_limit s May pendings.Passed = refl
uses_limit s May (pendings.Guard t e) = refl
uses_limit s May (pendings.Then f) = refl
uses_limit s May (pendings.Else f) = refl
uses_limit s May (pendings.LeftSide connectives.And r) = refl
uses_limit s May (pendings.LeftSide connectives.Or r) = refl
uses_limit s May (pendings.RightSide c) = refl
uses_limit s May (pendings.KeptRightSide c l r) = refl
uses_limit s May (pendings.Unary op) = refl
uses_limit s May (pendings.BinaryLeft op r) = refl
uses_limit s May (pendings.BinaryRight op l) = resolved May s.resolution limit
uses_limit s May (pendings.GetAttr k) = refl
uses_limit s May (pendings.HasAttr k) = refl
uses_limit s May (pendings.ExtHasAttr ks) = path_limit May s.resolution s.store _ _
uses_limit s May (pendings.Like p) = refl
uses_limit s May (pendings.Is t) = refl

-- the failure of a part of a set, a record or a call is the whole's
pub parts_fail : (s : Setting) (calls : StoredCalls) (k : ℕ) (t : Term) (f : PartsFrame) (c : Term) → WaitsForPart s calls k f t c → (e : model.Failure) →
    Runs s calls k c (fails e) → Runs s calls (suc k) t (fails e)
parts_fail s calls k t f c w e h =
    let items = f.parts.value.items in
    let all : Parts (Runs s calls k) (terms_view items) (Err e) = so_far_fails (Runs s calls k) (terms_view items) _ w.next.0 c w.read.0 e w.read.2 w.next.1 h in
    subst (λ u. Runs s calls (suc k) u (fails e)) w.term (whole_fails s calls (Runs s calls k) f.whole items e f.keys all)

-- the recursion limit of what is waited for is that of what waits
pub limit_upward : (calls : StoredCalls) (s : Setting) (k : ℕ) (task : Task) (t c : Term) → WaitsFor s calls k task t c → Runs s calls k c limit → Runs s calls (suc k) t limit
limit_upward calls s k (tasks.Parts f) t c waits runs = parts_fail s calls k t f.value c waits model.recursion_limit runs
limit_upward calls s k (tasks.Other p) t c waits runs = waits limit limit runs (uses_limit s (Runs s calls k) p)

module _ (Says : RequestPart → Type 0) (setting : RequestPart → Setting) (calls : StoredCalls) where
  pub right_limit : (p : SharedExpr) → IsRight Says setting calls 0 p (Err stops.Limit)
  right_limit p = record { answer = λ q speaks ok. refl; place = tt }

  pub right_out_of_memory : (k : ℕ) (p : SharedExpr) → IsRight Says setting calls k p (Err stops.Memory)
  right_out_of_memory k p = record { answer = λ q speaks ok. absurd (ok refl); place = tt }

  pub right_upward : (k : ℕ) (f : Frame) (p c : SharedExpr) (a : Ending) → ends_all a ≡ true → FrameWaits Says setting calls k f p c → IsRight Says setting calls k c a → IsRight Says setting calls (suc k) p a
  right_upward k f p c (Ok v) ends waits right = absurd (cc)
  right_upward k f p c (Err stops.Memory) ends waits right = right_out_of_memory (suc k) p
  right_upward k f p c (Err stops.Limit) ends waits right = record {
    answer = λ q speaks ok. limit_upward calls (setting q) k f.task (view p.value) (view c.value) (waits.waits q speaks) (right.answer q speaks limit_is_not_out_of_memory);
    place = tt;
  }
  right_upward k f p c (Err (stops.Failed x)) ends waits right = absurd (cc)

pub some_pending : (p : Pending) → 1 ≤ pending_left p
some_pending pendings.Passed = omega arith
some_pending (pendings.Guard t e) = omega arith
some_pending (pendings.Then f) = omega arith
some_pending (pendings.Else f) = omega arith
some_pending (pendings.LeftSide c r) = omega arith
some_pending (pendings.RightSide c) = omega arith
some_pending (pendings.KeptRightSide c l r) = omega arith
some_pending (pendings.Unary op) = omega arith
some_pending (pendings.BinaryLeft op r) = omega arith
some_pending (pendings.BinaryRight op l) = omega arith
some_pending (pendings.GetAttr k) = omega arith
some_pending (pendings.HasAttr k) = omega arith
some_pending (pendings.ExtHasAttr ks) = omega arith
some_pending (pendings.Like p) = omega arith
some_pending (pendings.Is t) = omega arith

pub some_left : (f : Frame) → 1 ≤ left_of f
some_left f = some_task f.task
  where
    some_task : (t : Task) → 1 ≤ task_left t
    some_task (tasks.Parts g) = Rattle.cedar_restricted.specs.Laws.some_left g.value
    some_task (tasks.Other p) = some_pending p

pub limit_ends : ends_all (Err stops.Limit) ≡ true
limit_ends = refl

pub some_most : 1 ≤ 2 ^ 64 + 1
some_most = omega arith
