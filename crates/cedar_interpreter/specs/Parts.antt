-- How the parts of a set, a record or a call are taken over from the evaluator of restricted expressions.
use Rattle.std.specs.Prelude.{◌≡◌, ◌≢◌, Option, Err}
use Rattle.cedar_model.specs.Failures.{fails, out_of_memory}
use Rattle.cedar_model.specs.Rules.{Parts}
use Rattle.cedar_names.specs.declared.names.Loc.{Loc}
use Rattle.cedar_expressions.specs.declared.expr.Expr.{Expr}
use Rattle.cedar_expressions.specs.View.{expr_loc}
use Rattle.cedar_frames.specs.declared.machine.Transition.TheVariants.{Done, Wait}
use Rattle.cedar_restricted.specs.declared.parts.PartsFrame.{PartsFrame}
use Rattle.cedar_restricted.specs.Evaluations.{partial_answer}
use Rattle.cedar_restricted.specs.Frames.{NextPart}
use Rattle.cedar_interpreter.specs.declared.frame.Task.TheVariants as tasks
use Rattle.cedar_interpreter.specs.declared.frame.Task.{Task}
use Rattle.cedar_interpreter.specs.declared.stopped.Stopped.TheVariants as stops
use Rattle.cedar_interpreter.specs.Endings.{ending_answer}
use Rattle.cedar_interpreter.specs.Tasks.{Next, StandsAt}

-- a set, a record or a call waits for this part
abbrev pub IsTakenAs : PartsFrame → Expr → Task → Expr → Type 0
IsTakenAs f c (tasks.Parts g) d = (g.value ≡ f) × (d ≡ c)
IsTakenAs f c (tasks.Other p) d = ⊥

-- and stands at this place, unless out of memory
abbrev pub IsNextPart : Option Loc → PartsFrame → Expr → Next → Type 0
IsNextPart l f c (Wait g d) = IsTakenAs f c g.task d.value × (expr_loc g.whole.value ≡ l)
IsNextPart l f c (Done o) = o ≡ Err stops.Memory

-- the next part, or the answer, taken over for the whole at this place
abbrev pub IsTaken : Option Loc → NextPart → Next → Type 0
IsTaken l (Wait f c) n = IsNextPart l f c n
IsTaken l (Done r) (Done o) = (ending_answer o ≢ fails out_of_memory → ending_answer o ≡ partial_answer r) × StandsAt l o
IsTaken l (Done r) (Wait g d) = ⊥
