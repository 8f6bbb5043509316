use Rattle.std.proofs.Common.{◌≡◌, ◌<◌, ◌≤◌, length, sym, ap, ◌∙◌, subst, refl, arith, None}
use Rattle.std.proofs.lemmas.List.{length-map}
use Rattle.cedar_decisions.specs.Decisions.{decision_view}
use Rattle.cedar_reasons.specs.Facts.{facts_view, fact_view}
use Rattle.cedar_minimal_reasons.specs.Questions.{question, Answers}
use Rattle.cedar_minimal_reasons.proofs.Leaving.{answers_some, answers_none, answers_same, thinned_if, one_more}
use Rattle.cedar_minimal_reasons.proofs.thinning.fewer.Goals as goal

pub returns-in-Some : goal.returns-in-Some
returns-in-Some g c =
    let q = question c.args.authorizer.now c.args.case.now in
    let rest = c.in_ok-rest.rest in
    let found = answers_some q c.deref.result.now rest.items c.deref.ensures.value c.in_ok-found.field-0 c.in-Some.found c.in-Some.is c.in_ok-found.ensures in
    thinned_if q (facts_view c.args.facts.now) (decision_view c.args.decision) c.same_decision.result rest c.fewer_if.result c.fewer_if.ensures
    (answers_same q (facts_view rest.items) c.same_decision.result c.in-Some.found c.args.decision c.same_decision.ensures found)

pub each-preserved : goal.each-preserved
each-preserved g c =
    let q = question c.args.authorizer.now c.args.case.now in
    let rest = c.in_ok-rest.rest in
    let found = answers_none q c.deref.result.now rest.items c.deref.ensures.value c.in_ok-found.field-0 c.in-None.is c.in_ok-found.ensures in
    one_more q (facts_view c.args.facts.now) c.each.at c.each.invariant (subst (λ fs. Answers q fs None) c.in_ok-rest.ensures found)

pub returns : goal.returns
returns g c i h =
    let same : length (facts_view c.args.facts.now) ≡ length c.args.facts.now = length-map c.args.facts.now fact_view in
    let end = c.each-test.false in
    c.each.invariant i (omega arith)
