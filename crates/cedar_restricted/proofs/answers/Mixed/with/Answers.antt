use Rattle.std.proofs.Common.{◌≡◌, subst, sym, true}
use Rattle.cedar_model.specs.Shapes.{have_unknown}
use Rattle.cedar_expressions.specs.View.{terms_view}
use Rattle.cedar_restricted.proofs.Collected.{unknown_before}
use Rattle.cedar_restricted.proofs.answers.Mixed.with.Goals as goal

pub invariant_of-result : goal.invariant_of-result
invariant_of-result c = record {
  unknown = subst (λ es. have_unknown (terms_view es) ≡ true) (sym c.in_ok-push.ensures.items)
      (unknown_before c.args.self.exprs.items c.args.expr c.args.self.unknown);
}
