use Rattle.std.proofs.Common.{◌≡◌, ◌+◌, ◌-◌, suc, subst, arith}
use Rattle.cedar_model.specs.Terms.{Term, both}
use Rattle.cedar_model.specs.World.{Slots}
use Rattle.cedar_expressions.specs.View.{view}
use Rattle.cedar_errors.specs.Answers.{partial_answer}
use Rattle.cedar_layers.specs.Policies.{slots_view, policy_view, condition_term}
use Rattle.cedar_evaluator.specs.Direct.{RunsWith}
use Rattle.cedar_evaluator.proofs.evaluator.Evaluator.joined_parts.Goals as goal

pub returns-clause-answer : goal.returns-clause-answer
returns-clause-answer g c =
    let v = c.args.self.now in
    let p = policy_view c.args.policy.now in
    let slots = slots_view c.env-slots.result.now in
    let levels = v.limit - 3 in
    let one : suc levels ≡ levels + 1 = omega arith in
    let two : suc (levels + 1) ≡ levels + 2 = omega arith in
    let all : suc (levels + 2) ≡ v.limit = omega (arith, c.requires) in
    let principal = view c.principal_constraint.result.now in
    let pair = both principal (view c.action_constraint.result.now) in
    let scope = both pair (view c.resource_constraint.result.now) in
    let whole = both scope (view c.when_clause.result.now) in
    let terms : whole ≡ condition_term p = λ i.
    both (both (both (c.principal_constraint.ensures.view i) (c.action_constraint.ensures.view i)) (c.resource_constraint.ensures.view i)) (c.when_clause.ensures.view i) in
    let of_pair : RunsWith v slots (suc levels) pair (partial_answer c.beside-pair.result) =
    c.beside-pair.ensures.answer principal c.part-principal.ensures in
    let of_scope : RunsWith v slots (suc (levels + 1)) scope (partial_answer c.beside-scope.result) =
    c.beside-scope.ensures.answer pair (subst (λ n. RunsWith v slots n pair (partial_answer c.beside-pair.result)) one of_pair) in
    let of_all : RunsWith v slots (suc (levels + 2)) whole (partial_answer c.beside.result) =
    c.beside.ensures.answer scope (subst (λ n. RunsWith v slots n scope (partial_answer c.beside-scope.result)) two of_scope) in
    subst (λ n. RunsWith v p.slots n (condition_term p) (partial_answer c.beside.result)) all
    (subst (λ (s : Slots). RunsWith v s (suc (levels + 2)) (condition_term p) (partial_answer c.beside.result)) c.env-slots.ensures
    (subst (λ (t : Term). RunsWith v slots (suc (levels + 2)) t (partial_answer c.beside.result)) terms of_all))
