-- Where the elements of an evaluated set stand, over the frames of an evaluation.
use Rattle.std.specs.Prelude.{◌≡◌, ℕ, true, List, Ok, Err, IfOk}
use Rattle.cedar_model.specs.Terms.{Terms, set_of}
use Rattle.cedar_expressions.specs.declared.expr.Expr.{Expr}
use Rattle.cedar_expressions.specs.View.{view, expr_loc}
use Rattle.cedar_expressions.specs.Nodes.{parts_of}
use Rattle.cedar_values.specs.declared.partial_value.PartialValue.{PartialValue}
use Rattle.cedar_values.specs.Residuals.{partial_view, partial_inside, IfValue}
use Rattle.cedar_frames.specs.declared.machine.Transition.TheVariants.{Done, Wait}
use Rattle.cedar_restricted.specs.Frames.{NextPart}
use Rattle.cedar_restricted.specs.Elements.{IsSetOf, ElementsStand, SetWaits}
use Rattle.cedar_interpreter.specs.declared.frame.Frame.{Frame}
use Rattle.cedar_interpreter.specs.declared.frame.Task.{Task}
use Rattle.cedar_interpreter.specs.declared.frame.Task.TheVariants as tasks
use Rattle.cedar_interpreter.specs.Endings.{Ending}
use Rattle.cedar_interpreter.specs.Tasks.{SharedExpr, Next}
use Rattle.cedar_interpreter.specs.Frames.{ends_all}

-- ---- what stands where

-- of an expression that is a set, the elements of its value stand where its parts do
abbrev pub EndingStands : SharedExpr → Ending → Type 0
EndingStands p o = (n : ℕ) → IfOk o (λ b. IfValue b.value (ElementsStand n p.value))

-- the set of these parts waits for this one
abbrev pub TaskWaits : List Expr → Task → Expr → Type 0
TaskWaits es (tasks.Parts f) c = SetWaits es f.value c
TaskWaits es (tasks.Other p) c = ⊥

-- what comes next of the set of these parts
abbrev pub SetNext : List Expr → Next → Type 0
SetNext es (Wait f c) = TaskWaits es f.task c.value
SetNext es (Done o) = (n : ℕ) → IfOk o (λ b. IfValue b.value (IsSetOf (ElementsStand n) es))

-- what comes next of an expression, where it is a set
abbrev pub NextStands : Expr → Next → Type 0
NextStands e x = (ts : Terms) → view e ≡ set_of ts → SetNext (parts_of e) x

-- where the expression is a set, it waits in the frame for this part
abbrev pub FrameStands : Frame → SharedExpr → SharedExpr → Type 0
FrameStands f p c = (ts : Terms) → view p.value ≡ set_of ts → TaskWaits (parts_of p.value) f.task c.value

-- the answer to a part, at its place
abbrev pub PartStands : Expr → Ending → Type 0
PartStands c o = (n : ℕ) → IfOk o (λ b. IfValue b.value (λ v. (v.loc ≡ expr_loc c) × ElementsStand n c v))

-- what a set goes on to with the answer of the part that it waits for
abbrev pub TaskContinues : Task → Ending → Next → Type 0
TaskContinues t o x = (es : List Expr) (c : Expr) → TaskWaits es t c → PartStands c o → SetNext es x

-- ---- values that are handed on

-- an answer is this one, with the places inside it; it may stand at another place
abbrev pub IsBoxed : PartialValue → Next → Type 0
IsBoxed p (Done o) =
    IfOk o (λ b. (partial_view b.value ≡ partial_view p) × (partial_inside b.value ≡ partial_inside p))
IsBoxed p (Wait f c) = ⊥

-- an answer that is taken over is the same
abbrev pub IsPartTaken : NextPart → Next → Type 0
IsPartTaken (Done (Ok p)) (Done o) =
    IfOk o (λ b. (partial_view b.value ≡ partial_view p) × (partial_inside b.value ≡ partial_inside p))
IsPartTaken (Done (Ok p)) (Wait f c) = ⊥
IsPartTaken (Done (Err e)) (Done o) = IfOk o (λ b. ⊥)
IsPartTaken (Done (Err e)) (Wait f c) = Unit {0}
IsPartTaken (Wait g d) n = Unit {0}

-- an answer that ends all is no value
pub ended_stands : (p : SharedExpr) (o : Ending) → ends_all o ≡ true → EndingStands p o
ended_stands p (Ok b) ends = absurd (cc)
ended_stands p (Err e) ends = λ n. tt
