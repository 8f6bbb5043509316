use Rattle.std.proofs.Common.{subst, Some}
use Rattle.cedar_decisions.specs.Decisions.{decision_view}
use Rattle.cedar_reasons.specs.Facts.{facts_view}
use Rattle.cedar_minimal_reasons.specs.Questions.{question, Answers}
use Rattle.cedar_minimal_reasons.proofs.thinning.tried_once.Goals as goal

pub each-preserved-then-branch : goal.each-preserved-then-branch
each-preserved-then-branch g c =
    subst (λ xs. Answers (question c.args.authorizer.now c.args.case.now) (facts_view xs) (Some (decision_view c.args.decision))) c.deref-in-each.ensures.value
    (c.in_ok-is_given.ensures c.if-branch.true)
