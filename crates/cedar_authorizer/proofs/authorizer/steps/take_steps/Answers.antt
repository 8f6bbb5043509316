use Rattle.std.proofs.Common.{◌≡◌, suc, ◌+◌, ◌∷◌, drop, ap, sym, ◌∙◌, subst, arith}
use Rattle.std.proofs.Math.Seq.{drop-cons}
use Rattle.std.proofs.lemmas.List.{drop_all}
use Rattle.cedar_authorizer.specs.reauthorization.Errors.{step_refusal}
use Rattle.cedar_authorizer.specs.Configured.{configuration, resolution_of}
use Rattle.cedar_authorizer.specs.Headline.{step_view, steps_view}
use Rattle.cedar_authorizer.proofs.Chaining.{AreTaken, none_taken, stops_with, ends_with, one_taken, refused_with}
use Rattle.cedar_authorizer.proofs.authorizer.steps.take_steps.Goals as goal

pub steps-init : goal.steps-init
steps-init g c =
    none_taken (configuration c.args.authorizer.now) c.args.first (steps_view (resolution_of c.args.authorizer.now) c.args.steps.now)

pub returns-then-has_recursion_limit-clause-taken : goal.returns-then-has_recursion_limit-clause-taken
returns-then-has_recursion_limit-clause-taken g c =
    let steps = c.args.steps.now in
    let all = steps_view (resolution_of c.args.authorizer.now) steps in
    let i = c.steps.step-index in
    let item = c.step-item.result in
    let more : suc i ≡ i + 1 = omega arith in
    let next : drop i steps ≡ item ∷ drop (i + 1) steps = drop-cons steps i item c.steps-test.true ∙ ap (λ p. p ∷ drop (suc i) steps) (sym c.step-item.is) ∙ ap (λ j. item ∷ drop j steps) more in
    let left = steps_view (resolution_of c.args.authorizer.now) (drop (i + 1) steps) in
    let taken : AreTaken (configuration c.args.authorizer.now) c.args.first all (step_view (resolution_of c.args.authorizer.now) item ∷ left) c.steps.response = subst (λ l. AreTaken (configuration c.args.authorizer.now) c.args.first all (steps_view (resolution_of c.args.authorizer.now) l) c.steps.response) next c.steps.invariant in
    stops_with (configuration c.args.authorizer.now) c.args.first all (step_view (resolution_of c.args.authorizer.now) item) left c.steps.response taken (sym c.has_recursion_limit.ensures ∙ c.if-has_recursion_limit.true)

pub returns-clause-taken : goal.returns-clause-taken
returns-clause-taken g c =
    let steps = c.args.steps.now in
    ends_with (configuration c.args.authorizer.now) c.args.first (steps_view (resolution_of c.args.authorizer.now) steps) (steps_view (resolution_of c.args.authorizer.now) (drop c.steps.step-index steps)) c.steps.response (ap (steps_view (resolution_of c.args.authorizer.now)) (drop_all c.steps.step-index steps c.steps-test.false)) c.steps.invariant

pub returns-in-Err-clause-taken : goal.returns-in-Err-clause-taken
returns-in-Err-clause-taken g c =
    let steps = c.args.steps.now in
    let all = steps_view (resolution_of c.args.authorizer.now) steps in
    let i = c.steps.step-index in
    let item = c.step-item.result in
    let more : suc i ≡ i + 1 = omega arith in
    let next : drop i steps ≡ item ∷ drop (i + 1) steps = drop-cons steps i item c.steps-test.true ∙ ap (λ p. p ∷ drop (suc i) steps) (sym c.step-item.is) ∙ ap (λ j. item ∷ drop j steps) more in
    let left = steps_view (resolution_of c.args.authorizer.now) (drop (i + 1) steps) in
    let taken : AreTaken (configuration c.args.authorizer.now) c.args.first all (step_view (resolution_of c.args.authorizer.now) item ∷ left) c.steps.response = subst (λ l. AreTaken (configuration c.args.authorizer.now) c.args.first all (steps_view (resolution_of c.args.authorizer.now) l) c.steps.response) next c.steps.invariant in
    refused_with (configuration c.args.authorizer.now) c.args.first all (step_view (resolution_of c.args.authorizer.now) item) left c.steps.response taken (sym c.has_recursion_limit.ensures ∙ c.if-has_recursion_limit.false) (step_refusal c.in-Err.error) c.in-Err.ensures.step

pub steps-preserved : goal.steps-preserved
steps-preserved g c =
    let steps = c.args.steps.now in
    let all = steps_view (resolution_of c.args.authorizer.now) steps in
    let i = c.steps.step-index in
    let item = c.step-item.result in
    let more : suc i ≡ i + 1 = omega arith in
    let next : drop i steps ≡ item ∷ drop (i + 1) steps = drop-cons steps i item c.steps-test.true ∙ ap (λ p. p ∷ drop (suc i) steps) (sym c.step-item.is) ∙ ap (λ j. item ∷ drop j steps) more in
    let left = steps_view (resolution_of c.args.authorizer.now) (drop (i + 1) steps) in
    let taken : AreTaken (configuration c.args.authorizer.now) c.args.first all (step_view (resolution_of c.args.authorizer.now) item ∷ left) c.steps.response = subst (λ l. AreTaken (configuration c.args.authorizer.now) c.args.first all (steps_view (resolution_of c.args.authorizer.now) l) c.steps.response) next c.steps.invariant in
    one_taken (configuration c.args.authorizer.now) c.args.first all (step_view (resolution_of c.args.authorizer.now) item) left c.steps.response taken (sym c.has_recursion_limit.ensures ∙ c.if-has_recursion_limit.false) c.in-Ok.next c.in-Ok.ensures.step
