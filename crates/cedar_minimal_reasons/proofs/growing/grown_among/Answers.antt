use Rattle.std.proofs.Common.{◌≡◌, Option, sym, ap, ◌∙◌, subst, option_map}
use Rattle.cedar_decisions.specs.declared.decision.Decision.{Decision}
use Rattle.cedar_decisions.specs.Decisions.{decision_view}
use Rattle.cedar_reasons.specs.Facts.{facts_view}
use Rattle.cedar_minimal_reasons.specs.Questions.{question, IsResponseTo}
use Rattle.cedar_minimal_reasons.proofs.growing.grown_among.Goals as goal

pub returns-in-Some : goal.returns-in-Some
returns-in-Some g c = record {
  response = c.in_ok-response.response;
  responds = subst (λ xs. IsResponseTo (question c.args.authorizer.now c.args.case.now) (facts_view xs) c.in_ok-response.response) c.deref.ensures.value c.in_ok-response.ensures;
  decides = ap (λ (o : Option Decision). option_map decision_view o) (sym c.in-Some.is) ∙ c.settled.ensures;
}
