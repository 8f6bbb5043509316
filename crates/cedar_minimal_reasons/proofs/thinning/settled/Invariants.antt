use Rattle.std.proofs.Common.{Some}
use Rattle.cedar_decisions.specs.Decisions.{decision_view}
use Rattle.cedar_reasons.specs.Facts.{facts_view}
use Rattle.cedar_minimal_reasons.specs.Questions.{question, Answers}
use Rattle.cedar_minimal_reasons.proofs.thinning.settled.Given as goal

-- the facts that are left give the decision
abbrev pub invariant-passes : goal.invariant-passes
invariant-passes g l = Answers (question l.fn.authorizer l.fn.case) (facts_view l.facts.items) (Some (decision_view l.fn.decision))
