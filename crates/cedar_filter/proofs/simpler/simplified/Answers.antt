use Rattle.std.proofs.Common.{◌≡◌, ◌≤◌, Result, Ok, Err, IfOk, sym, subst}
use Rattle.cedar_model.specs.Terms.{Term}
use Rattle.cedar_model.specs.Agreement.{height}
use Rattle.cedar_expressions.specs.View.{view}
use Rattle.cedar_expressions.specs.declared.expr.Expr.{Expr}
use Rattle.cedar_filter.specs.Simplifying.{simplified, MeanTheSame}
use Rattle.cedar_filter.proofs.Same.{means_the_same, is_no_higher}
use Rattle.cedar_filter.proofs.simpler.simplified.Goals as goal

mean : {E : Type 0} (r : Result Expr E) (t : Term) → IfOk r (λ e. view e ≡ simplified t) → IfOk r (λ e. MeanTheSame (view e) t)
mean (Ok e) t is = subst (λ s. MeanTheSame s t) (sym is) (λ X ans w slots. means_the_same X ans w slots t)
mean (Err e) t is = is

low : {E : Type 0} (r : Result Expr E) (t : Term) → IfOk r (λ e. view e ≡ simplified t) → IfOk r (λ e. height (view e) ≤ height t)
low (Ok e) t is = subst (λ s. height s ≤ height t) (sym is) (is_no_higher t)
low (Err e) t is = is

pub returns-clause-meaning : goal.returns-clause-meaning
returns-clause-meaning c = mean _ _ c.simpler.ensures

pub returns-clause-height : goal.returns-clause-height
returns-clause-height c = low _ _ c.simpler.ensures
