use Rattle.std.proofs.Common.{refl}
use Rattle.cedar_reasons.specs.Facts.{facts_view}
use Rattle.cedar_minimal_reasons.specs.Questions.{question}
use Rattle.cedar_minimal_reasons.proofs.Leaving.{answers_some, answers_same}
use Rattle.cedar_minimal_reasons.proofs.thinning.is_given.Goals as goal

pub returns-in-Some : goal.returns-in-Some
returns-in-Some g c told =
    let q = question c.args.authorizer.now c.args.case.now in
    let found = answers_some q c.args.facts.now c.args.facts.now refl c.in_ok-found.field-0 c.in-Some.found c.in-Some.is c.in_ok-found.ensures in
    answers_same q (facts_view c.args.facts.now) c.same_decision.result c.in-Some.found c.args.decision c.same_decision.ensures found told
