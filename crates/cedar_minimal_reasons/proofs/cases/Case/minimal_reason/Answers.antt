use Rattle.cedar_decisions.specs.Decisions.{decision_view}
use Rattle.cedar_minimal_reasons.specs.Questions.{question}
use Rattle.cedar_minimal_reasons.specs.Reasons.{facts_of}
use Rattle.cedar_minimal_reasons.proofs.Responding.{decides}
use Rattle.cedar_minimal_reasons.proofs.cases.Case.minimal_reason.Goals as goal

pub returns-in_ok-thinned-in-Some-clause-decides : goal.returns-in_ok-thinned-in-Some-clause-decides
returns-in_ok-thinned-in-Some-clause-decides g c =
    let r = c.in_ok-thinned-in-Some.field-0 in
    decides (question c.args.authorizer.now c.args.self.now) (facts_of r) (decision_view r.decision) c.in_ok-thinned-in-Some.ensures.given
