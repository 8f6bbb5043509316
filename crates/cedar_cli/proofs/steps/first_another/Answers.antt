use Rattle.std.proofs.Common.{sym, subst, inl, inr}
use Rattle.cedar_requests.specs.Substitutions.{values_for}
use Rattle.cedar_cli.specs.Stopped.{GivesAnother}
use Rattle.cedar_cli.proofs.steps.first_another.Goals as goal

pub pairs-preserved : goal.pairs-preserved
pairs-preserved c = λ h.
    c.pairs.invariant
    (subst (GivesAnother (values_for c.args.values.now.entries)) (sym c.in-Some.ensures.steps) (inr h))

pub returns-then-is_another : goal.returns-then-is_another
returns-then-is_another c =
    c.pairs.invariant
    (subst (GivesAnother (values_for c.args.values.now.entries)) (sym c.in-Some.ensures.steps)
    (inl (c.is_another.ensures c.if-is_another.true)))
