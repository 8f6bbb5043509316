-- Where elements stand, from one frame to the next.
use Rattle.std.specs.Prelude.{◌≡◌, ◌≢◌, ℕ, zero, suc, List, Option, Ok, Err}
use Rattle.std.proofs.Common.{sym, ◌∙◌, subst}
use Rattle.cedar_model.specs.Terms.{Term, Terms, set_of}
use Rattle.cedar_model.specs.Failures.{Failure, fails, out_of_memory}
use Rattle.cedar_model.specs.Settings.{RequestPart, Setting}
use Rattle.cedar_model.specs.Rules.{StoredCalls}
use Rattle.cedar_model.proofs.Injections.{answers_is_not_fails}
use Rattle.cedar_names.specs.declared.names.Loc.{Loc}
use Rattle.cedar_expressions.specs.declared.expr.Expr.{Expr}
use Rattle.cedar_expressions.specs.View.{view, expr_loc}
use Rattle.cedar_expressions.specs.Nodes.{parts_of}
use Rattle.cedar_values.specs.declared.partial_value.PartialValue.{PartialValue}
use Rattle.cedar_values.specs.declared.partial_value.PartialValue.TheVariants as partials
use Rattle.cedar_values.specs.Residuals.{partial_view, partial_loc, IfValue}
use Rattle.cedar_frames.specs.declared.machine.Transition.TheVariants.{Done, Wait}
use Rattle.cedar_frames.specs.Frames.{Resumes}
use Rattle.cedar_restricted.specs.declared.parts.PartsFrame.{PartsFrame}
use Rattle.cedar_restricted.specs.Frames.{NextPart}
use Rattle.cedar_restricted.specs.Elements.{IsSetOf, ElementsStand, SetWaits, SetLeads, set_put}
use Rattle.cedar_interpreter.specs.declared.frame.Frame.{Frame}
use Rattle.cedar_interpreter.specs.declared.frame.Task.{Task}
use Rattle.cedar_interpreter.specs.declared.frame.Task.TheVariants as tasks
use Rattle.cedar_interpreter.specs.Endings.{Ending}
use Rattle.cedar_interpreter.specs.Tasks.{SharedExpr, Next, Gives}
use Rattle.cedar_interpreter.specs.Parts.{IsTaken, IsTakenAs}
use Rattle.cedar_interpreter.specs.Frames.{IsRight, FrameWaits}
use Rattle.cedar_interpreter.specs.Elements.{EndingStands, TaskWaits, SetNext, NextStands, FrameStands, PartStands, TaskContinues, IsPartTaken}

taken_waits : (es : List Expr) (f : PartsFrame) (c : Expr) (task : Task) (d : Expr) → SetWaits es f c → IsTakenAs f c task d → TaskWaits es task d
taken_waits es f c (tasks.Parts g) d h (same, part) =
    subst (λ z. SetWaits es z d) (sym same) (subst (λ z. SetWaits es f z) (sym part) h)
taken_waits es f c (tasks.Other p) d h taken = absurd taken

pub taken_stands : (es : List Expr) (l : Option Loc) (x : NextPart) (n : Next) → SetLeads es x → IsTaken l x n → IsPartTaken x n → SetNext es n
taken_stands es l (Wait f c) (Wait g d) h (taken, place) same = taken_waits es f c g.task d.value h taken
taken_stands es l (Wait f c) (Done o) h taken same = subst (λ y. SetNext es (Done y)) (sym taken) (λ n. tt)
taken_stands es l (Done (Ok p)) (Done (Ok b)) h taken (seen, inside) = λ n.
    set_put (ElementsStand n) es p b.value seen inside (h n)
taken_stands es l (Done (Ok p)) (Done (Err e)) h taken same = λ n. tt
taken_stands es l (Done (Err x)) (Done (Ok b)) h taken same = absurd same
taken_stands es l (Done (Err x)) (Done (Err e)) h taken same = λ n. tt
taken_stands es l (Done r) (Wait f c) h taken same = absurd taken

-- of an expression that is a set, with these parts
pub set_next : (e : Expr) (es : List Expr) (x : Next) → parts_of e ≡ es → SetNext es x → NextStands e x
set_next e es x is h = λ ts seen. subst (λ l. SetNext l x) (sym is) h

-- of one that is none
pub no_set_next : (e : Expr) (t : Term) (x : Next) → t ≡ view e → ((ts : Terms) → t ≢ set_of ts) → NextStands e x
no_set_next e t x seen other = λ ts is. absurd (other ts (seen ∙ is))

-- an error is no set's value
pub failed_next : (es : List Expr) (l : Option Loc) (e : Failure) (n : Next) → Gives l n (fails e) → SetNext es n
failed_next es l e (Done (Ok b)) gives = absurd (answers_is_not_fails (partial_view b.value) e (gives.0 (answers_is_not_fails (partial_view b.value) out_of_memory)))
failed_next es l e (Done (Err x)) gives = λ n. tt
failed_next es l e (Wait f c) gives = absurd gives

set_outcome : (p : SharedExpr) (r : Ending) →
    ((ts : Terms) → view p.value ≡ set_of ts → SetNext (parts_of p.value) (Done r)) → EndingStands p r
set_outcome p (Ok b) h n = of_value b.value (λ ts is m. h ts is m) n
  where
    of_value : (q : PartialValue) → ((ts : Terms) → view p.value ≡ set_of ts → (m : ℕ) →
        IfValue q (IsSetOf (ElementsStand m) (parts_of p.value))) → (m : ℕ) → IfValue q (ElementsStand m p.value)
    of_value (partials.Value v) g zero = tt
    of_value (partials.Value v) g (suc m) = λ ts is. g ts is m
    of_value (partials.Residual q) g m = tt
set_outcome p (Err e) h n = tt

module _ (Says : RequestPart → Type 0) (setting : RequestPart → Setting) (calls : StoredCalls) where
  abbrev pub BothRight : ℕ → SharedExpr → Ending → Type 0
  BothRight k p o = IsRight Says setting calls k p o × EndingStands p o

  abbrev pub BothWait : ℕ → Frame → SharedExpr → SharedExpr → Type 0
  BothWait k f p c = FrameWaits Says setting calls k f p c × FrameStands f p c

  -- what comes next
  pub both_resume : (k : ℕ) (p : SharedExpr) (x : Next) → Resumes (IsRight Says setting calls) (FrameWaits Says setting calls) k p x →
      NextStands p.value x → Resumes BothRight BothWait k p x
  both_resume k p (Done r) right stands = (right, set_outcome p r stands)
  both_resume k p (Wait f c) waits stands = (waits, stands)

  part_stands : (k : ℕ) (c : SharedExpr) (o : Ending) → BothRight k c o → PartStands c.value o
  part_stands k c (Ok b) (right, stands) n = of_value b.value right.place (stands n)
    where
      of_value : (q : PartialValue) → partial_loc q ≡ expr_loc c.value → IfValue q (ElementsStand n c.value) →
          IfValue q (λ v. (v.loc ≡ expr_loc c.value) × ElementsStand n c.value v)
      of_value (partials.Value v) place h = (place, h)
      of_value (partials.Residual r) place h = tt
  part_stands k c (Err e) both n = tt

  -- what waited goes on
  pub continues_standing : (k : ℕ) (f : Frame) (p c : SharedExpr) (o : Ending) (n : Next) → BothWait k f p c → BothRight k c o →
      TaskContinues f.task o n → NextStands p.value n
  continues_standing k f p c o n (waits, stands) right more =
      λ ts is. more (parts_of p.value) c.value (stands ts is) (part_stands k c o right)
