-- What an evaluation's steps promise of what comes next: for any request and any levels (`At`), or for the requests that
-- the evaluation speaks of, where so many levels are left for the whole (`In`).
use Rattle.std.specs.Prelude.{◌≤◌, ℕ, suc}
use Rattle.cedar_model.specs.Terms.{Term}
use Rattle.cedar_model.specs.Failures.{Answer}
use Rattle.cedar_model.specs.Settings.{RequestPart}
use Rattle.cedar_expressions.specs.View.{expr_loc}
use Rattle.cedar_interpreter.specs.declared.evaluation.Evaluation.{Evaluation}
use Rattle.cedar_interpreter.specs.declared.frame.Pending.{Pending}
use Rattle.cedar_interpreter.specs.declared.frame.Task.{Task}
use Rattle.cedar_interpreter.specs.declared.frame.Task.TheVariants as tasks
use Rattle.cedar_interpreter.specs.Settings.{Speaks, evaluation_setting, calls_in}
use Rattle.cedar_interpreter.specs.Tasks.{SharedExpr, Next, Starts, Continues, Leads, LeftFewer, HasPlace}

-- the term of this whole starts so
abbrev pub StartsAt : {X : Type 0} {F : X → Type 0} {g : _} → Evaluation X F g → SharedExpr → Term → Next → Type 0
StartsAt e w t n = (r : RequestPart) (k : ℕ) → Starts (evaluation_setting r e) (calls_in e) k (expr_loc w.value) t n

-- what waited, for this whole, goes on so after this answer
abbrev pub ContinuesAt : {X : Type 0} {F : X → Type 0} {g : _} → Evaluation X F g → SharedExpr → Pending → Answer → Next → Type 0
ContinuesAt e w p x n = (r : RequestPart) (k : ℕ) → Continues (evaluation_setting r e) (calls_in e) k (expr_loc w.value) p x n

-- the term of this whole starts so
abbrev pub StartsIn : {X : Type 0} {F : X → Type 0} {g : _} → Evaluation X F g → ℕ → SharedExpr → Term → Next → Type 0
StartsIn e levels w t n =
    ((r : RequestPart) (k : ℕ) → Speaks r e → levels ≤ suc k →
    Starts (evaluation_setting r e) (calls_in e) k (expr_loc w.value) t n)
    × HasPlace (expr_loc w.value) n

-- what waited, for this whole, goes on so after a value or a residual
abbrev pub ContinuesIn : {X : Type 0} {F : X → Type 0} {g : _} → Evaluation X F g → ℕ → SharedExpr → Pending → Answer → Next
    → Type 0
ContinuesIn e levels w p x n =
    ((r : RequestPart) (k : ℕ) → Speaks r e → levels ≤ suc (suc k) →
    Continues (evaluation_setting r e) (calls_in e) (suc k) (expr_loc w.value) p x n)
    × HasPlace (expr_loc w.value) n × LeftFewer (tasks.Other p) n

-- what an answer leads to, for this whole
abbrev pub LeadsIn : {X : Type 0} {F : X → Type 0} {g : _} → Evaluation X F g → ℕ → SharedExpr → Task → Answer → Next → Type 0
LeadsIn e levels w task x n =
    ((r : RequestPart) (k : ℕ) → Speaks r e → levels ≤ suc k →
    Leads (evaluation_setting r e) (calls_in e) k (expr_loc w.value) task x n)
    × HasPlace (expr_loc w.value) n × LeftFewer task n
