-- The laws of what starts, continues and leads on.
use Rattle.std.specs.Prelude.{◌≡◌, ◌≢◌, ℕ, suc, ◌+◌, ◌^◌, ◌<◌, Bool, List, length, Option, Some, Result, Ok, Err, IfOk}
use Rattle.std.proofs.Common.{refl, sym, ap, ◌∙◌, subst, arith}
use Rattle.std.specs.declared.alloc.AllocError.{AllocError}
use Rattle.cedar_model.specs.Terms.{Text, Term, bool_literal}
use Rattle.cedar_model.specs.Values.{plain_represented}
use Rattle.cedar_model.specs.Outcomes.{bool_of}
use Rattle.cedar_model.specs.Failures as model
use Rattle.cedar_model.specs.Failures.{Answer, value, answers, answers_bool, fails, limit, out_of_memory}
use Rattle.cedar_model.specs.Settings.{RequestPart, Store, Resolution, shallow, deep, Setting}
use Rattle.cedar_model.specs.Rules.{MayAnswer, StoredCalls, Parts, Runs, Meets, AtPath, joined, on_part, beside_residual, binary_beside, has_part, is_part}
use Rattle.cedar_model.proofs.Injections.{answers_is_not_fails}
use Rattle.cedar_names.specs.declared.names.Loc.{Loc}
use Rattle.cedar_expressions.specs.View.{view, expr_loc}
use Rattle.cedar_values.specs.declared.partial_value.PartialValue.{PartialValue}
use Rattle.cedar_values.specs.Residuals.{partial_view}
use Rattle.cedar_frames.specs.declared.machine.Transition.TheVariants.{Done, Wait}
use Rattle.cedar_frames.specs.Frames.{Resumes, Fewer, Below}
use Rattle.cedar_operators.specs.declared.partial.connectives.Connective.TheVariants as connectives
use Rattle.cedar_restricted.specs.declared.parts.PartsFrame.{PartsFrame}
use Rattle.cedar_restricted.specs.Frames as restricted
use Rattle.cedar_restricted.specs.Frames.{NextPart}
use Rattle.cedar_restricted.specs.Laws.{left_below}
use Rattle.std.specs.declared.alloc.Global.{Global}
use Rattle.std.specs.declared.boxed.Box.{Box}
use Rattle.std.specs.declared.rc.Rc.{Rc}
use Rattle.std.specs.declared.rc.RcStr.{RcStr}
use Rattle.std.specs.Rc.{rc_str_bytes}
use Rattle.std.proofs.lemmas.List.{length-map}
use Rattle.cedar_names.specs.declared.types.FirstRest.{FirstRest}
use Rattle.cedar_names.specs.Leaves.{texts_view}
use Rattle.cedar_interpreter.specs.declared.frame.Frame.{Frame}
use Rattle.cedar_interpreter.specs.declared.frame.Pending.{Pending}
use Rattle.cedar_interpreter.specs.declared.frame.Pending.TheVariants as pendings
use Rattle.cedar_interpreter.specs.declared.frame.Task.{Task}
use Rattle.cedar_interpreter.specs.declared.frame.Task.TheVariants as tasks
use Rattle.cedar_interpreter.specs.declared.stopped.Stopped.TheVariants as stops
use Rattle.cedar_interpreter.specs.Endings.{Ending, ending_answer}
use Rattle.cedar_interpreter.specs.Reads.{resolved_in, part_path}
use Rattle.cedar_interpreter.proofs.ReadLaws.{read_shorter, path_as_read}
use Rattle.cedar_interpreter.specs.Tasks.{SharedExpr, Next, StandsAt, Uses, WaitsFor, Starts, Gives, HasPlace, IsOrWant, IsWaiting, IsWalkedOn, IsPassed, WaitsAgain, Continues, Leads, LeftFewer, pending_left, task_left}
use Rattle.cedar_interpreter.specs.Frames.{IsRight, FrameWaits, left_of}
use Rattle.cedar_interpreter.proofs.BooleanLaws.{joins}
use Rattle.cedar_interpreter.specs.Parts.{IsTaken}
use Rattle.cedar_interpreter.proofs.PartsLaws.{parts_continue}
use Rattle.cedar_interpreter.specs.Laws.{limit_is_not_out_of_memory, resolved, limit_upward, parts_fail}

-- ---- on with an answer

-- what is given is what the rules make of an expression without parts
pub gives_starts : (s : Setting) (calls : StoredCalls) (k : ℕ) (l : Option Loc) (t : Term) (b : Answer) (n : Next) →
    ((a : Answer) → a ≢ fails out_of_memory → a ≡ b → Runs s calls (suc k) t a) → Gives l n b → Starts s calls k l t n
gives_starts s calls k l t b (Done r) runs gives = (λ ok. runs (ending_answer r) ok (gives.0 ok), gives.1)
gives_starts s calls k l t b (Wait f c) runs gives = absurd gives

-- where what comes next stands
pub starts_placed : (s : Setting) (calls : StoredCalls) (k : ℕ) (l : Option Loc) (t : Term) (n : Next) → Starts s calls k l t n → HasPlace l n
starts_placed s calls k l t (Done r) starts = starts.1
starts_placed s calls k l t (Wait f c) starts = starts.1

pub continues_placed : (s : Setting) (calls : StoredCalls) (k : ℕ) (l : Option Loc) (p : Pending) (x : Answer) (n : Next) → Continues s calls k l p x n → HasPlace l n
continues_placed s calls k l p x (Done r) goes = goes.1
continues_placed s calls k l p x (Wait f c) goes = goes.1

pub taken_placed : (l : Option Loc) (x : NextPart) (n : Next) → IsTaken l x n → HasPlace l n
taken_placed l (Wait f c) (Wait g d) taken = taken.1
taken_placed l (Wait f c) (Done o) taken = subst (StandsAt l) (sym taken) tt
taken_placed l (Done r) (Done o) taken = taken.1
taken_placed l (Done r) (Wait g d) taken = absurd taken

pub given_fewer : (l : Option Loc) (task : Task) (n : Next) (a : Answer) → Gives l n a → LeftFewer task n
given_fewer l task (Done r) a gives = tt
given_fewer l task (Wait f c) a gives = absurd gives

pub gives_placed : (l : Option Loc) (n : Next) (a : Answer) → Gives l n a → HasPlace l n
gives_placed l (Done r) a gives = gives.1
gives_placed l (Wait f c) a gives = absurd gives

-- what is given, where memory may run out
pub or_out_of_memory_gives : (l : Option Loc) (b : Answer) (m : Result Next AllocError) (n : Next) → IfOk m (λ x. Gives l x b) → IsOrWant m n → Gives l n b
or_out_of_memory_gives l b (Ok m) n gives is = subst (λ x. Gives l x b) (sym is) gives
or_out_of_memory_gives l b (Err e) n gives is = subst (λ x. Gives l x b) (sym is) (λ ok. absurd (ok refl), tt)

-- what is given is what the rules make of the part's answer
pub gives_continues : (s : Setting) (calls : StoredCalls) (k : ℕ) (l : Option Loc) (p : Pending) (x b : Answer) (n : Next) →
    ((a : Answer) → a ≢ fails out_of_memory → a ≡ b → Uses s (Runs s calls k) p x a) → Gives l n b → Continues s calls k l p x n
gives_continues s calls k l p x b (Done r) uses gives = (λ ok. uses (ending_answer r) ok (gives.0 ok), gives.1)
gives_continues s calls k l p x b (Wait f c) uses gives = absurd gives

-- what waited for a part other than one of a set, a record or a call
waits_again_leads : (s : Setting) (calls : StoredCalls) (k : ℕ) (p : Pending) (x : Answer) (task : Task) (d : Term) → x ≢ fails out_of_memory →
    WaitsAgain s calls k p x task d → (t c : Term) → WaitsFor s calls k (tasks.Other p) t c → Meets (Runs s calls k c) x → WaitsFor s calls k task t d
waits_again_leads s calls k p x (tasks.Parts f) d never_out_of_memory goes t c waits meets = absurd goes
waits_again_leads s calls k p x (tasks.Other q) d never_out_of_memory goes t c waits meets = λ y a runs uses. waits x a (meets never_out_of_memory) (goes.1 y a runs uses)

pub continues_leads : (s : Setting) (calls : StoredCalls) (k : ℕ) (l : Option Loc) (p : Pending) (x : Answer) (n : Next) → x ≢ fails out_of_memory → Continues s calls k l p x n → Leads s calls k l (tasks.Other p) x n
continues_leads s calls k l p x (Done r) never_out_of_memory goes t c waits meets = (λ ok. waits x (ending_answer r) (meets never_out_of_memory) (goes.0 ok), goes.1)
continues_leads s calls k l p x (Wait f d) never_out_of_memory goes t c waits meets = (waits_again_leads s calls k p x f.task (view d.value) never_out_of_memory goes.0 t c waits meets, goes.1)

waits_again_fewer : (s : Setting) (calls : StoredCalls) (k : ℕ) (p : Pending) (x : Answer) (task : Task) (d : Term) → WaitsAgain s calls k p x task d → task_left task < pending_left p
waits_again_fewer s calls k p x (tasks.Parts f) d goes = absurd goes
waits_again_fewer s calls k p x (tasks.Other q) d goes = goes.0

pub continues_fewer : (s : Setting) (calls : StoredCalls) (k : ℕ) (l : Option Loc) (p : Pending) (x : Answer) (n : Next) → Continues s calls k l p x n → LeftFewer (tasks.Other p) n
continues_fewer s calls k l p x (Done r) goes = tt
continues_fewer s calls k l p x (Wait f d) goes = waits_again_fewer s calls k p x f.task (view d.value) goes.0

-- what goes on, where memory may run out
pub or_out_of_memory_continues : (s : Setting) (calls : StoredCalls) (k : ℕ) (l : Option Loc) (p : Pending) (x : Answer) (m : Result Next AllocError) (n : Next) →
    IfOk m (Continues s calls k l p x) → IsOrWant m n → Continues s calls k l p x n
or_out_of_memory_continues s calls k l p x (Ok m) n goes is = subst (Continues s calls k l p x) (sym is) goes
or_out_of_memory_continues s calls k l p x (Err e) n goes is = subst (Continues s calls k l p x) (sym is) (λ ok. absurd (ok refl), tt)

-- a boolean on the right is the answer
pub literal_joined : (with_left : Term → Term) (b : Bool) → answers_bool b ≡ joined with_left (answers_bool b)
unfolding bool_of
literal_joined with_left b = joins with_left (value (plain_represented (bool_literal b))) b refl

-- what waits for a part starts, where the rules make an answer of whatever the part answers
pub waiting_starts : (s : Setting) (calls : StoredCalls) (k : ℕ) (w : SharedExpr) (p : Pending) (t : Term) (c : SharedExpr) (n : Next) →
    WaitsFor s calls k (tasks.Other p) t (view c.value) → IsWaiting w (tasks.Other p) c n → Starts s calls k (expr_loc w.value) t n
waiting_starts s calls k w p t c (Done r) waits is =
    subst (λ o. Starts s calls k (expr_loc w.value) t (Done o)) (sym is) (λ ok. absurd (ok refl), tt)
waiting_starts s calls k w p t c (Wait f d) waits (task, part, whole) = (
  subst (λ q. WaitsFor s calls k q t (view d.value)) (sym task)
      (subst (λ e. WaitsFor s calls k (tasks.Other p) t (view e)) (sym part) waits),
  ap expr_loc whole,
)

-- the next operand
pub waiting_continues : (s : Setting) (calls : StoredCalls) (k : ℕ) (w : SharedExpr) (p q : Pending) (x : Answer) (c : SharedExpr) (n : Next) →
    pending_left q < pending_left p → ((y a : Answer) → Runs s calls k (view c.value) y → Uses s (Runs s calls k) q y a → Uses s (Runs s calls k) p x a) →
    IsWaiting w (tasks.Other q) c n → Continues s calls k (expr_loc w.value) p x n
waiting_continues s calls k w p q x c (Done r) fewer uses is =
    subst (λ o. Continues s calls k (expr_loc w.value) p x (Done o)) (sym is) (λ ok. absurd (ok refl), tt)
waiting_continues s calls k w p q x c (Wait f d) fewer uses (task, part, whole) = (
  subst (λ t. WaitsAgain s calls k p x t (view d.value)) (sym task)
      (subst (λ e. WaitsAgain s calls k p x (tasks.Other q) (view e)) (sym part) (fewer, uses)),
  ap expr_loc whole,
)

-- what goes on of one wait goes on of another, where what the rules make of it is what they make of the other
waits_through : (s : Setting) (calls : StoredCalls) (k : ℕ) (p q : Pending) (x y : Answer) (task : Task) (d : Term) →
    pending_left q < pending_left p → ((a : Answer) → Uses s (Runs s calls k) q y a → Uses s (Runs s calls k) p x a) →
    WaitsAgain s calls k q y task d → WaitsAgain s calls k p x task d
waits_through s calls k p q x y (tasks.Parts f) d fewer lift waits = absurd waits
waits_through s calls k p q x y (tasks.Other o) d fewer lift (less, again) =
    (omega (arith, fewer, less), λ z a runs uses. lift a (again z a runs uses))

pub continues_through : (s : Setting) (calls : StoredCalls) (k : ℕ) (l : Option Loc) (p q : Pending) (x y : Answer) (n : Next) →
    pending_left q < pending_left p → ((a : Answer) → Uses s (Runs s calls k) q y a → Uses s (Runs s calls k) p x a) →
    Continues s calls k l q y n → Continues s calls k l p x n
continues_through s calls k l p q x y (Done r) fewer lift (goes, place) = (λ ok. lift (ending_answer r) (goes ok), place)
continues_through s calls k l p q x y (Wait f d) fewer lift (waits, place) =
    (waits_through s calls k p q x y f.task (view d.value) fewer lift waits, place)

-- and can wait less often
pub fewer_through : (p q : Pending) (n : Next) → pending_left q < pending_left p → LeftFewer (tasks.Other q) n → LeftFewer (tasks.Other p) n
fewer_through p q (Done r) fewer less = tt
fewer_through p q (Wait f d) fewer less = omega (arith, fewer, less)

-- a part that is the answer
pub passed_again : (s : Setting) (calls : StoredCalls) (k : ℕ) (l : Option Loc) (p : Pending) (x : Answer) (t : Term) (n : Next) →
    pending_left pendings.Passed < pending_left p → ((y a : Answer) → Runs s calls k t y → a ≡ y → Uses s (Runs s calls k) p x a) →
    IsPassed l t n → Continues s calls k l p x n
passed_again s calls k l p x t (Done r) fewer uses is =
    subst (λ o. Continues s calls k l p x (Done o)) (sym is) (λ ok. absurd (ok refl), tt)
passed_again s calls k l p x t (Wait f d) fewer uses (task, part, place) = (
  subst (λ y. WaitsAgain s calls k p x y (view d.value)) (sym task)
      (subst (λ c. WaitsAgain s calls k p x (tasks.Other pendings.Passed) c) (sym part) (fewer, uses)),
  place,
)

fewer_texts : (a b m n : ℕ) → a ≡ m → n ≡ b → m < n → suc a < suc b
fewer_texts a b m n is same fewer = omega (arith, is, same, fewer)

-- a stored residual on the way of an extended `has`, which is waited for
pub walked_continues : (s : Setting) (calls : StoredCalls) (k : ℕ) (l : Option Loc) (path : Rc (FirstRest (RcStr Global)) Global)
    (p : model.PartialValue) (read : Term × Text × List Text) (x : Next)
    → resolved_in s.resolution (part_path s.store p (rc_str_bytes path.value.first) (texts_view path.value.rest.items)) ≡ Some read
    → IsWalkedOn l read x → Continues s calls k l (pendings.ExtHasAttr path) (answers p) x
walked_continues s calls k l path p read (Done r) some is =
    subst (λ o. Continues s calls k l (pendings.ExtHasAttr path) (answers p) (Done o)) (sym is) (λ ok. absurd (ok refl), tt)
walked_continues s calls k l path p (t, n, ns) (Wait f c) some ((q, task, first, rest), part, place) = (
  subst (λ y. WaitsAgain s calls k (pendings.ExtHasAttr path) (answers p) y (view c.value)) (sym task)
      (subst (λ y. WaitsAgain s calls k (pendings.ExtHasAttr path) (answers p) (tasks.Other (pendings.ExtHasAttr q)) y) (sym part) (
        fewer_texts (length q.value.rest.items) (length path.value.rest.items) (length ns) (length (texts_view path.value.rest.items))
            (sym (length-map q.value.rest.items rc_str_bytes) ∙ ap length rest) (length-map path.value.rest.items rc_str_bytes)
            (read_shorter s.resolution s.store p (rc_str_bytes path.value.first) (texts_view path.value.rest.items) t n ns some),
        λ y a runs uses. path_as_read (Runs s calls k) s.store s.resolution p (rc_str_bytes path.value.first) (texts_view path.value.rest.items) t n ns some y a runs
            (subst (λ m. AtPath (Runs s calls k) s.resolution s.store y m ns a) first
            (subst (λ ms. AtPath (Runs s calls k) s.resolution s.store y (rc_str_bytes q.value.first) ms a) rest uses)),
      )),
  place,
)

-- an error of a part is the whole's
abbrev pub IsPassedOn : Pending → Type 0
IsPassedOn pendings.Passed = Unit {0}
IsPassedOn (pendings.Guard t e) = Unit {0}
IsPassedOn (pendings.Then f) = ⊥
IsPassedOn (pendings.Else f) = ⊥
IsPassedOn (pendings.LeftSide c r) = Unit {0}
IsPassedOn (pendings.RightSide c) = Unit {0}
IsPassedOn (pendings.KeptRightSide c l r) = ⊥
IsPassedOn (pendings.Unary op) = Unit {0}
IsPassedOn (pendings.BinaryLeft op r) = Unit {0}
IsPassedOn (pendings.BinaryRight op l) = Unit {0}
IsPassedOn (pendings.GetAttr k) = Unit {0}
IsPassedOn (pendings.HasAttr k) = Unit {0}
IsPassedOn (pendings.ExtHasAttr ks) = Unit {0}
IsPassedOn (pendings.Like p) = Unit {0}
IsPassedOn (pendings.Is t) = Unit {0}

-- what waits for neither branch beside a residual guard nor for the right side beside a residual left one
pub other_passes : (p : Pending) → ((f : _) → p ≡ pendings.Then f → ⊥) → ((f : _) → p ≡ pendings.Else f → ⊥) →
    ((c : _) (l : _) (r : _) → p ≡ pendings.KeptRightSide c l r → ⊥) → IsPassedOn p
other_passes pendings.Passed not_then not_else not_kept = tt
other_passes (pendings.Guard t e) not_then not_else not_kept = tt
other_passes (pendings.Then f) not_then not_else not_kept = not_then f refl
other_passes (pendings.Else f) not_then not_else not_kept = not_else f refl
other_passes (pendings.LeftSide c r) not_then not_else not_kept = tt
other_passes (pendings.RightSide c) not_then not_else not_kept = tt
other_passes (pendings.KeptRightSide c l r) not_then not_else not_kept = not_kept c l r refl
other_passes (pendings.Unary op) not_then not_else not_kept = tt
other_passes (pendings.BinaryLeft op r) not_then not_else not_kept = tt
other_passes (pendings.BinaryRight op l) not_then not_else not_kept = tt
other_passes (pendings.GetAttr k) not_then not_else not_kept = tt
other_passes (pendings.HasAttr k) not_then not_else not_kept = tt
other_passes (pendings.ExtHasAttr ks) not_then not_else not_kept = tt
other_passes (pendings.Like p) not_then not_else not_kept = tt
other_passes (pendings.Is t) not_then not_else not_kept = tt

passed_path : (May : MayAnswer) (q : Resolution) (store : Store) (e : model.Failure) (l : Text) (ls : List Text) → AtPath May q store (fails e) l ls (fails e)
unfolding on_part
passed_path May shallow store e l ls = refl
passed_path May deep store e l ls = refl

pub passed_on : (s : Setting) (May : MayAnswer) (p : Pending) (e : model.Failure) → IsPassedOn p → Uses s May p (fails e) (fails e)
unfolding joined on_part binary_beside beside_residual has_part is_part
passed_on s May pendings.Passed e h = refl
passed_on s May (pendings.Guard t u) e h = refl
passed_on s May (pendings.Then f) e h = absurd h
passed_on s May (pendings.Else f) e h = absurd h
passed_on s May (pendings.LeftSide connectives.And r) e h = refl
passed_on s May (pendings.LeftSide connectives.Or r) e h = refl
passed_on s May (pendings.RightSide c) e h = refl
passed_on s May (pendings.KeptRightSide c l r) e h = absurd h
passed_on s May (pendings.Unary op) e h = refl
passed_on s May (pendings.BinaryLeft op r) e h = refl
passed_on s May (pendings.BinaryRight op l) e h = resolved May s.resolution (fails e)
passed_on s May (pendings.GetAttr k) e h = refl
passed_on s May (pendings.HasAttr k) e h = refl
passed_on s May (pendings.ExtHasAttr ks) e h = passed_path May s.resolution s.store e _ _
passed_on s May (pendings.Like q) e h = refl
passed_on s May (pendings.Is t) e h = refl

-- an error of a part is given where it is passed on
pub passed_continues : (s : Setting) (calls : StoredCalls) (k : ℕ) (l : Option Loc) (p : Pending) (e : model.Failure) (n : Next) →
    IsPassedOn p → Gives l n (fails e) → Continues s calls k l p (fails e) n
passed_continues s calls k l p e n h gives =
    gives_continues s calls k l p (fails e) (fails e) n
    (λ a ok is. subst (Uses s (Runs s calls k) p (fails e)) (sym is) (passed_on s (Runs s calls k) p e h)) gives

-- ---- what an answer leads to

module _ (s : Setting) (calls : StoredCalls) (k : ℕ) (l : Option Loc) where
  pub out_of_memory_leads : (task : Task) (x : Answer) → Leads s calls k l task x (Done (Err stops.Memory))
  out_of_memory_leads task x t c waits meets = (λ ok. absurd (ok refl), tt)

  pub limit_leads : (task : Task) → Leads s calls k l task limit (Done (Err stops.Limit))
  limit_leads task t c waits meets = (λ ok. limit_upward calls s k task t c waits (meets limit_is_not_out_of_memory), tt)

  pub parts_lead : (f : Box PartsFrame Global) (p : PartialValue) (x : NextPart) (n : Next) → restricted.ContinuesParts s.extensions calls f.value (Ok p) x → IsTaken l x n → Leads s calls k l (tasks.Parts f) (answers (partial_view p)) n
  parts_lead f p x n goes taken t c waits meets = parts_continue s calls k t l f.value c waits p x n (meets (answers_is_not_fails (partial_view p) out_of_memory)) goes taken

  pub failed_leads : (f : Box PartsFrame Global) (e : model.Failure) (n : Next) → Gives l n (fails e) → Leads s calls k l (tasks.Parts f) (fails e) n
  failed_leads f e n gives t c waits meets =
      gives_starts s calls k l t (fails e) n
      (λ a ok is. subst (Runs s calls (suc k) t) (sym is) (parts_fail s calls k t f.value c waits e (meets (λ w. ok (is ∙ w))))) gives

-- ---- the loop

module _ (Says : RequestPart → Type 0) (setting : RequestPart → Setting) (calls : StoredCalls) where
  pub start_right : (k : ℕ) (p : SharedExpr) (l : Option Loc) (x : Next) →
      ((r : RequestPart) → Says r → Starts (setting r) calls k l (view p.value) x) → HasPlace l x → l ≡ expr_loc p.value →
      Resumes (IsRight Says setting calls) (FrameWaits Says setting calls) k p x
  start_right k p l (Done r) starts has place = record {
    answer = λ q speaks ok. (starts q speaks).0 ok;
    place = subst (λ y. StandsAt y r) place has;
  }
  start_right k p l (Wait f c) starts has place = record {
    waits = λ q speaks. (starts q speaks).0;
    place = has ∙ place;
  }

  pub resume_right : (k : ℕ) (f : Frame) (p c : SharedExpr) (y : Ending) (x : Next) →
      FrameWaits Says setting calls k f p c → IsRight Says setting calls k c y →
      ((r : RequestPart) → Says r → Leads (setting r) calls k (expr_loc f.whole.value) f.task (ending_answer y) x) →
      HasPlace (expr_loc f.whole.value) x → Resumes (IsRight Says setting calls) (FrameWaits Says setting calls) k p x
  resume_right k f p c y x waits right leads has =
      start_right k p (expr_loc f.whole.value) x
      (λ q speaks. leads q speaks (view p.value) (view c.value) (waits.waits q speaks) (right.answer q speaks)) has waits.place

few_pending : (p : Pending) → pending_left p < 2 ^ 64 + 1
few_pending pendings.Passed = omega arith
few_pending (pendings.Guard t e) = omega arith
few_pending (pendings.Then f) = omega arith
few_pending (pendings.Else f) = omega arith
few_pending (pendings.LeftSide c r) = omega arith
few_pending (pendings.RightSide c) = omega arith
few_pending (pendings.KeptRightSide c l r) = omega arith
few_pending (pendings.Unary op) = omega arith
few_pending (pendings.BinaryLeft op r) = omega arith
few_pending (pendings.BinaryRight op l) = omega arith
few_pending (pendings.GetAttr k) = omega arith
few_pending (pendings.HasAttr k) = omega arith
few_pending (pendings.ExtHasAttr ks) = let h = ks.value.rest.small in let l = ks.value.rest.ok in omega arith
few_pending (pendings.Like p) = omega arith
few_pending (pendings.Is t) = omega arith

few_task : (t : Task) → task_left t < 2 ^ 64 + 1
few_task (tasks.Parts g) = left_below g.value
few_task (tasks.Other p) = few_pending p

pub below_any : (x : Next) → Below left_of (2 ^ 64 + 1) x
below_any (Done r) = tt
below_any (Wait f c) = few_task f.task

pub left_fewer : (f : Frame) (x : Next) → LeftFewer f.task x → Fewer left_of f x
left_fewer f (Done r) fewer = tt
left_fewer f (Wait g c) fewer = fewer
