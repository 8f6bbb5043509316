use Rattle.cedar_layers.specs.Policies.{effect_view}
use Rattle.cedar_authorizer.specs.responses.Rows.{true_rows, residual_rows}
use Rattle.cedar_authorizer.proofs.Getting.{found_before, found_after, if_found, made_whole}
use Rattle.cedar_authorizer.proofs.Getting.{residual_carried, true_carried, false_carried}
use Rattle.cedar_authorizer.proofs.Getting.{residual_there, residual_absent, true_there, true_absent, false_there}
use Rattle.cedar_authorizer.proofs.Getting.{false_absent}
use Rattle.cedar_authorizer.proofs.responses.partial_response.get.get_of.Goals as goal

pub returns-in-Some : goal.returns-in-Some
returns-in-Some c =
    let e = effect_view c.args.effect in
    let k = c.args.id.now in
    let made = c.policy_of_residual.ensures in
    if_found c.policy_of_residual.result _ _ _ c.find_made.ensures
    (made_whole c.policy_of_residual.result _ _ _ made.policy made.clause (residual_carried e (k, c.in-Some.entry.now))) (λ p h.
    found_before _ (residual_rows e c.args.residual.now.entries) _ p (residual_there e k c.args.residual.now.entries _ p c.in-Some.ensures.value h))

pub returns-in-Some-get : goal.returns-in-Some-get
returns-in-Some-get c =
    let e = effect_view c.args.effect in
    let k = c.args.id.now in
    let made = c.policy_of_truth.ensures in
    if_found c.policy_of_truth.result _ _ _ c.find_made-in-Some-get.ensures
    (made_whole c.policy_of_truth.result _ _ _ made.policy made.clause (true_carried e (k, c.in-Some-get.annotations.now))) (λ p h.
    found_after _ (residual_rows e c.args.residual.now.entries) _ _ (residual_absent e k c.args.residual.now.entries c.in_default.ensures.value)
    (found_before _ (true_rows e c.args.satisfied.now.entries) _ p (true_there e k c.args.satisfied.now.entries _ p c.in-Some-get.ensures.value h)))

pub returns-in-Some-get-2 : goal.returns-in-Some-get-2
returns-in-Some-get-2 c =
    let e = effect_view c.args.effect in
    let k = c.args.id.now in
    let made = c.policy_of_truth-in-Some-get-2.ensures in
    if_found c.policy_of_truth-in-Some-get-2.result _ _ _ c.find_made-in-Some-get-2.ensures
    (made_whole c.policy_of_truth-in-Some-get-2.result _ _ _ made.policy made.clause (false_carried e (k, c.in-Some-get-2.entry.now))) (λ p h.
    found_after _ (residual_rows e c.args.residual.now.entries) _ _ (residual_absent e k c.args.residual.now.entries c.in_default.ensures.value)
    (found_after _ (true_rows e c.args.satisfied.now.entries) _ _ (true_absent e k c.args.satisfied.now.entries c.in_default-get.ensures.value)
    (false_there e k c.args.unsatisfied.now.entries _ p c.in-Some-get-2.ensures.value h)))

pub returns : goal.returns
returns c =
    let e = effect_view c.args.effect in
    let k = c.args.id.now in
    found_after _ (residual_rows e c.args.residual.now.entries) _ _ (residual_absent e k c.args.residual.now.entries c.in_default.ensures.value)
    (found_after _ (true_rows e c.args.satisfied.now.entries) _ _ (true_absent e k c.args.satisfied.now.entries c.in_default-get.ensures.value)
    (false_absent e k c.args.unsatisfied.now.entries c.in_default-get-2.ensures.value))
