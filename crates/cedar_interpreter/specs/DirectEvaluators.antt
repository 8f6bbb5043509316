-- What direct evaluators answer: the values of low expressions, from those of their parts.
use Rattle.std.specs.Prelude.{◌≡◌, ◌≤◌, ℕ, suc, List, length, map, Option, Some, None, Result, Ok, Err}
use Rattle.std.proofs.Common.{arith}
use Rattle.std.specs.List.Sorted.{IsStrictlySortedBy}
use Rattle.std.specs.declared.alloc.AllocError.{AllocError}
use Rattle.std.specs.declared.alloc.Global.{Global}
use Rattle.std.specs.declared.rc.RcStr.{RcStr}
use Rattle.std.specs.declared.vec.Vec.{Vec}
use Rattle.cedar_model.specs.Settings.{RequestPart}
use Rattle.cedar_model.specs.Rules.{Parts, Runs}
use Rattle.cedar_expressions.specs.declared.expr.Expr.{Expr}
use Rattle.cedar_expressions.specs.View.{terms_view}
use Rattle.cedar_values.specs.Sound.{Placed, whats}
use Rattle.cedar_expressions.specs.Nodes.{key_order}
use Rattle.cedar_restricted.specs.Keys.{texts_of}
use Rattle.cedar_restricted.specs.Parts.{all_values}
use Rattle.cedar_restricted.proofs.Collected.{names_under}
use Rattle.cedar_interpreter.specs.declared.evaluation.Evaluation.{Evaluation}
use Rattle.cedar_interpreter.specs.Settings.{Speaks, evaluation_setting, calls_in}

-- the expressions of pairs
abbrev pub parts_under : List (RcStr Global × Expr) → List Expr
parts_under es = map {B = Expr} (λ e. e.1) es

-- these values are what the expressions answer, with so many levels
abbrev pub AreDirectValues : {X : Type 0} {F : X → Type 0} {g : _} → Evaluation X F g → ℕ → List Expr → List Placed → Type 0
AreDirectValues e h es vs =
    (r : RequestPart) (k : ℕ) → Speaks r e → h ≤ k → Parts (Runs (evaluation_setting r e) (calls_in e) k) (terms_view es) (Ok (all_values (whats vs)))

-- the values of all expressions, if all have one
abbrev pub HasDirectParts : {X : Type 0} {F : X → Type 0} {g : _} → Evaluation X F g → ℕ → List Expr → Result (Option (Vec Placed Global)) AllocError → Type 0
HasDirectParts e h es (Err x) = Unit {0}
HasDirectParts e h es (Ok None) = Unit {0}
HasDirectParts e h es (Ok (Some vs)) = (length vs.items ≡ length es) × AreDirectValues e h es vs.items

-- the keys of all pairs, and the values of their expressions, if all have one
abbrev pub HasDirectPairs : {X : Type 0} {F : X → Type 0} {g : _} → Evaluation X F g → ℕ → List (RcStr Global × Expr)
    → Result (Option (Vec (RcStr Global) Global × Vec Placed Global)) AllocError → Type 0
HasDirectPairs e h es (Err x) = Unit {0}
HasDirectPairs e h es (Ok None) = Unit {0}
HasDirectPairs e h es (Ok (Some p)) =
    (texts_of p.0.items ≡ names_under es) × (length p.0.items ≡ length p.1.items) × (length p.1.items ≡ length (parts_under es))
    × IsStrictlySortedBy key_order p.0.items × AreDirectValues e h (parts_under es) p.1.items

pub some_above : (h : ℕ) → 1 ≤ suc h
some_above h = omega arith
