-- What an arm knows of an expression whose kind it matched.
use Rattle.std.proofs.Common.{◌≡◌, ℕ, ap, sym, ◌∙◌, subst}
use Rattle.cedar_model.specs.Terms.{Term}
use Rattle.cedar_expressions.specs.declared.expr.ExprKind.{ExprKind}
use Rattle.cedar_expressions.specs.View.{kind_view}
use Rattle.cedar_interpreter.specs.declared.evaluation.Evaluation.{Evaluation}
use Rattle.cedar_interpreter.specs.Tasks.{SharedExpr, Next}
use Rattle.cedar_interpreter.specs.Continuations.{StartsIn}

-- the term of the kind is the whole's
pub seen : {kind arm : ExprKind} {part whole : Term} → kind_view arm ≡ part → kind ≡ arm → kind_view kind ≡ whole → part ≡ whole
seen level is view_is = sym level ∙ sym (ap kind_view is) ∙ view_is

-- so what starts it starts the whole
pub starts_seen : {X : Type 0} {F : X → Type 0} {g : _} (e : Evaluation X F g) (levels : ℕ) (w : SharedExpr) (n : Next)
    {part whole : Term} → part ≡ whole → StartsIn e levels w part n → StartsIn e levels w whole n
starts_seen e levels w n same h = subst (λ t. StartsIn e levels w t n) same h
