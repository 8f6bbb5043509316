-- Which answers are right for an expression, and what a frame waits for, whatever the request is.
use Rattle.std.specs.Prelude.{◌≡◌, ℕ, Bool, true, false, Ok, Err}
use Rattle.cedar_model.specs.Settings.{RequestPart, Setting}
use Rattle.cedar_model.specs.Rules.{StoredCalls, Runs, Meets}
use Rattle.cedar_expressions.specs.View.{view, expr_loc}
use Rattle.cedar_interpreter.specs.declared.frame.Frame.{Frame}
use Rattle.cedar_interpreter.specs.declared.stopped.Stopped.TheVariants as stops
use Rattle.cedar_interpreter.specs.Endings.{Ending, ending_answer}
use Rattle.cedar_interpreter.specs.Tasks.{SharedExpr, StandsAt, WaitsFor, task_left}

-- where the request may be any that Says allows, and gives this setting: the answer is right, with so many levels, and at the
-- expression's location
pub record IsRight (Says : RequestPart → Type 0) (setting : RequestPart → Setting) (calls : StoredCalls) (k : ℕ) (p : SharedExpr)
    (o : Ending) : Type 0 where
  pub answer : (r : RequestPart) → Says r → Meets (Runs (setting r) calls k (view p.value)) (ending_answer o)
  pub place : StandsAt (expr_loc p.value) o

-- in the frame the expression waits for its part, where parts have so many levels
pub record FrameWaits (Says : RequestPart → Type 0) (setting : RequestPart → Setting) (calls : StoredCalls) (k : ℕ) (f : Frame)
    (p c : SharedExpr) : Type 0 where
  pub waits : (r : RequestPart) → Says r → WaitsFor (setting r) calls k f.task (view p.value) (view c.value)
  pub place : expr_loc f.whole.value ≡ expr_loc p.value

-- how often a frame can still wait
abbrev pub left_of : Frame → ℕ
left_of f = task_left f.task

-- the recursion limit, and out of memory
abbrev pub ends_all : Ending → Bool
ends_all (Ok v) = false
ends_all (Err stops.Memory) = true
ends_all (Err stops.Limit) = true
ends_all (Err (stops.Failed f)) = false
